use Rattle.campaign_core.proofs.Common.{◌≡◌, ◌+◌, ◌-◌, drop, each_from, first_empty, first_empty_from, split_bounds_of, split_last}
use Rattle.campaign_core.proofs.splits.split_groups.Given as goal

-- the groups so far, none of them empty
abbrev pub invariant-loop-percentage : goal.invariant-loop-percentage
invariant-loop-percentage l = record {
  number : l.number ≡ l.percentage-index;
  last : l.last ≡ split_last l.members l.percentages l.percentage-index;
  groups : l.groups.items ≡ each_from (split_bounds_of l.members l.percentages) 1 l.percentage-index;
  none : first_empty l.members l.percentages ≡ first_empty_from (l.number + 1) (l.members - l.last) (drop l.percentage-index l.percentages);
}
