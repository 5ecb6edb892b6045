use Rattle.campaign_core.proofs.Common.{◌≡◌, ◌+◌, drop, percentages, first_empty, first_empty_from}
use Rattle.campaign_core.proofs.groupings.runs_out.Given as goal

-- none of the groups so far is empty
abbrev pub invariant-loop-definition : goal.invariant-loop-definition
invariant-loop-definition l = first_empty l.members (percentages l.definitions)
    ≡ first_empty_from (l.definition-index + 1) l.rest (percentages (drop l.definition-index l.definitions))
