use Rattle.ddi_api.proofs.Common.{refl}
use Rattle.std.specs.Str.{is_utf8, chars}
use Rattle.serde_json.proofs.OnLiterals.{serde_json_on_literals}
use Rattle.ddi_api.proofs.laws.no_numbers.Goals as goal

pub returns-clause-nothing : goal.returns-clause-nothing
unfolding serde_json_on_literals is_utf8 chars
returns-clause-nothing c = refl

pub returns-clause-over : goal.returns-clause-over
unfolding serde_json_on_literals is_utf8 chars
returns-clause-over c = refl

pub returns-clause-negative : goal.returns-clause-negative
unfolding serde_json_on_literals is_utf8 chars
returns-clause-negative c = refl

pub returns-clause-fraction : goal.returns-clause-fraction
unfolding serde_json_on_literals is_utf8 chars
returns-clause-fraction c = refl

pub returns-clause-exponent : goal.returns-clause-exponent
unfolding serde_json_on_literals is_utf8 chars
returns-clause-exponent c = refl

pub returns-clause-text : goal.returns-clause-text
unfolding serde_json_on_literals is_utf8 chars
returns-clause-text c = refl

pub returns-clause-null : goal.returns-clause-null
unfolding serde_json_on_literals is_utf8 chars
returns-clause-null c = refl
