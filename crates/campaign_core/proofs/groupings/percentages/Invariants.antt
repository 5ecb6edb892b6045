use Rattle.campaign_core.proofs.Common.{◌≡◌, take, percentages}
use Rattle.campaign_core.proofs.groupings.percentages.Given as goal

-- those of the definitions so far
abbrev pub invariant-loop-definition : goal.invariant-loop-definition
invariant-loop-definition l = l.all.items ≡ percentages (take l.definition-index l.definitions)
