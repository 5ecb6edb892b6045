use Rattle.desk_views.proofs.Answering.{◌≡◌, map, take, rules_of, group_shown, RolloutRecord, IsSeenOf}
use Rattle.desk_views.proofs.groups.all_shown.Given as goal

-- those so far
abbrev pub invariant-loop-group : goal.invariant-loop-group
invariant-loop-group l = (x : RolloutRecord) → IsSeenOf l.seen x → l.rules ≡ rules_of x.plan → l.all.items ≡ map (group_shown x) (take l.group-index l.groups)
