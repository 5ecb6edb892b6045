use Rattle.mgmt_objects.proofs.Common.{refl}
use Rattle.serde_json.proofs.OnLiterals.{serde_json_on_literals}
use Rattle.std.specs.Str.{chars, is_utf8}
use Rattle.mgmt_objects.proofs.laws.bodies.Goals as goal

pub returns-clause-module : goal.returns-clause-module
unfolding serde_json_on_literals is_utf8 chars
returns-clause-module c = refl

pub returns-clause-set : goal.returns-clause-set
unfolding serde_json_on_literals is_utf8 chars
returns-clause-set c = refl

pub returns-clause-targets : goal.returns-clause-targets
unfolding serde_json_on_literals is_utf8 chars
returns-clause-targets c = refl

pub returns-clause-rollout : goal.returns-clause-rollout
unfolding serde_json_on_literals is_utf8 chars
returns-clause-rollout c = refl

pub returns-clause-groups : goal.returns-clause-groups
unfolding serde_json_on_literals is_utf8 chars
returns-clause-groups c = refl

pub returns-clause-null_action : goal.returns-clause-null_action
unfolding serde_json_on_literals is_utf8 chars
returns-clause-null_action c = refl
