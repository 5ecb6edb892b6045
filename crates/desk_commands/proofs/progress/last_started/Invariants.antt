use Rattle.desk_commands.proofs.Answering.{◌≡◌, take, last_started}
use Rattle.desk_commands.proofs.progress.last_started.Given as goal

-- that of the groups before this index
abbrev pub invariant-loop-group : goal.invariant-loop-group
invariant-loop-group l = l.last ≡ last_started (take l.group-index l.groups)
