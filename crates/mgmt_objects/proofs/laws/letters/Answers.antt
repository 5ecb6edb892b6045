use Rattle.mgmt_objects.proofs.LettersLemmas.{action_spelled, group_spelled, module_spelled, rollout_spelled}
use Rattle.mgmt_objects.proofs.laws.letters.Goals as goal

pub returns-clause-module : goal.returns-clause-module
returns-clause-module c = module_spelled

pub returns-clause-rollout : goal.returns-clause-rollout
returns-clause-rollout c = rollout_spelled

pub returns-clause-group : goal.returns-clause-group
returns-clause-group c = group_spelled

pub returns-clause-action : goal.returns-clause-action
returns-clause-action c = action_spelled
