use Rattle.desk_store.proofs.Answering.{◌≡◌, take}
use Rattle.sqlite.specs.Values.{bound}
use Rattle.desk_records.specs.Rollouts.{members_given}
use Rattle.desk_store.proofs.members.member_params.Given as goal

-- the members before this index
abbrev pub invariant-loop-i : goal.invariant-loop-i
invariant-loop-i l = bound l.params.items ≡ members_given l.fn.number l.place (take l.i l.ids)
