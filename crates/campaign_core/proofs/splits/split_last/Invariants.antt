use Rattle.campaign_core.proofs.Common.{◌≡◌, split_last}
use Rattle.campaign_core.proofs.splits.split_last.Given as goal

-- the last position of the group so far
abbrev pub invariant-loop-i : goal.invariant-loop-i
invariant-loop-i l = l.last ≡ split_last l.members l.percentages l.i
