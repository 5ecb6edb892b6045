use Rattle.desk_views.proofs.Answering.{◌≡◌, map, take, shown_among}
use Rattle.desk_views.proofs.actions.all_shown_among.Given as goal

-- those so far
abbrev pub invariant-loop-one : goal.invariant-loop-one
invariant-loop-one l = l.all.items ≡ map (shown_among l.groups) (take l.one-index l.listed)
