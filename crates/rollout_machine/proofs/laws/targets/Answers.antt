use Rattle.rollout_machine.proofs.TargetMeanings.{row_is_the_last, targets_are_named, value_is_last}
use Rattle.rollout_machine.proofs.TargetTies.{tags_are}
use Rattle.rollout_machine.proofs.laws.targets.Goals as goal

pub returns-clause-row_is_last : goal.returns-clause-row_is_last
returns-clause-row_is_last c = row_is_the_last

pub returns-clause-targets_are_named : goal.returns-clause-targets_are_named
returns-clause-targets_are_named c = targets_are_named

pub returns-clause-value_is_last : goal.returns-clause-value_is_last
returns-clause-value_is_last c = value_is_last

pub returns-clause-tags_are_said : goal.returns-clause-tags_are_said
returns-clause-tags_are_said c = tags_are
