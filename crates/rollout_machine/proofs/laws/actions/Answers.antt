use Rattle.rollout_machine.proofs.Distinct.{one_number}
use Rattle.rollout_machine.proofs.Meanings.{canceling_is_last, numbers_actions, outcome_is_first}
use Rattle.rollout_machine.proofs.Numbers.{numbers_rise}
use Rattle.rollout_machine.proofs.laws.actions.Goals as goal

pub returns-clause-numbers_actions : goal.returns-clause-numbers_actions
returns-clause-numbers_actions c = numbers_actions

pub returns-clause-numbers_differ : goal.returns-clause-numbers_differ
returns-clause-numbers_differ c = one_number

pub returns-clause-outcome_is_first : goal.returns-clause-outcome_is_first
returns-clause-outcome_is_first c = outcome_is_first

pub returns-clause-canceling_is_last : goal.returns-clause-canceling_is_last
returns-clause-canceling_is_last c = canceling_is_last

pub returns-clause-numbers_rise : goal.returns-clause-numbers_rise
returns-clause-numbers_rise c = numbers_rise
