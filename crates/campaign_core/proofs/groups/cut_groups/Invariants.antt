use Rattle.campaign_core.proofs.Common.{◌≡◌, bounds_of, each_from}
use Rattle.campaign_core.proofs.groups.cut_groups.Given as goal

-- the groups so far
abbrev pub invariant-loop-i : goal.invariant-loop-i
invariant-loop-i l = l.cuts.items ≡ each_from (bounds_of l.members l.groups) 1 l.i
