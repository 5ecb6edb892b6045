use Rattle.hex.specs.Hex.{encode_with}
use Rattle.mgmt_objects.proofs.Common.{refl}
use Rattle.serde_json.proofs.OnLiterals.{serde_json_on_literals}
use Rattle.std.specs.Fmt.{digits}
use Rattle.mgmt_objects.proofs.laws.texts.Goals as goal

pub returns-clause-module : goal.returns-clause-module
unfolding serde_json_on_literals digits
returns-clause-module c = refl

pub returns-clause-set : goal.returns-clause-set
unfolding serde_json_on_literals digits
returns-clause-set c = refl

pub returns-clause-artifact : goal.returns-clause-artifact
unfolding serde_json_on_literals digits encode_with
returns-clause-artifact c = refl

pub returns-clause-target : goal.returns-clause-target
unfolding serde_json_on_literals digits
returns-clause-target c = refl

pub returns-clause-accepted : goal.returns-clause-accepted
unfolding serde_json_on_literals digits
returns-clause-accepted c = refl

pub returns-clause-rollout : goal.returns-clause-rollout
unfolding serde_json_on_literals digits
returns-clause-rollout c = refl

pub returns-clause-group : goal.returns-clause-group
unfolding serde_json_on_literals digits
returns-clause-group c = refl

pub returns-clause-action : goal.returns-clause-action
unfolding serde_json_on_literals digits
returns-clause-action c = refl
