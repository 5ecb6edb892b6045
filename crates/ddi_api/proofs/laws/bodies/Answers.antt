use Rattle.ddi_api.proofs.Common.{refl}
use Rattle.serde_json.proofs.OnLiterals.{serde_json_on_literals}
use Rattle.std.specs.Str.{chars, is_utf8}
use Rattle.ddi_api.proofs.laws.bodies.Goals as goal

pub returns-clause-feedback : goal.returns-clause-feedback
unfolding serde_json_on_literals is_utf8 chars
returns-clause-feedback c = refl

pub returns-clause-cancel_feedback : goal.returns-clause-cancel_feedback
unfolding serde_json_on_literals is_utf8 chars
returns-clause-cancel_feedback c = refl

pub returns-clause-config : goal.returns-clause-config
unfolding serde_json_on_literals is_utf8 chars
returns-clause-config c = refl
