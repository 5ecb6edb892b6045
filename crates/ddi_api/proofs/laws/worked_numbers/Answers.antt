use Rattle.ddi_api.proofs.Common.{refl}
use Rattle.std.specs.Str.{is_utf8, chars}
use Rattle.serde_json.proofs.OnLiterals.{serde_json_on_literals}
use Rattle.ddi_api.proofs.laws.worked_numbers.Goals as goal

pub returns-clause-greatest : goal.returns-clause-greatest
unfolding serde_json_on_literals is_utf8 chars
returns-clause-greatest c = refl

pub returns-clause-last : goal.returns-clause-last
unfolding serde_json_on_literals is_utf8 chars
returns-clause-last c = refl

pub returns-clause-missing : goal.returns-clause-missing
unfolding serde_json_on_literals is_utf8 chars
returns-clause-missing c = refl

pub returns-clause-inside : goal.returns-clause-inside
unfolding serde_json_on_literals is_utf8 chars
returns-clause-inside c = refl
