use Rattle.rollout_machine.proofs.Groupings.{grouping_is_cut}
use Rattle.rollout_machine.proofs.Splits.{first_empty_tells, split_is_cut}
use Rattle.rollout_machine.proofs.laws.groupings.Goals as goal

pub returns-clause-split_covers : goal.returns-clause-split_covers
returns-clause-split_covers c = split_is_cut

pub returns-clause-grouping_covers : goal.returns-clause-grouping_covers
returns-clause-grouping_covers c = grouping_is_cut

pub returns-clause-first_empty_tells : goal.returns-clause-first_empty_tells
returns-clause-first_empty_tells c = first_empty_tells
