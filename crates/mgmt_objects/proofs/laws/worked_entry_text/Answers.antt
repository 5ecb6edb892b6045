use Rattle.mgmt_objects.proofs.Common.{refl}
use Rattle.std.specs.Fmt.{digits}
use Rattle.serde_json.proofs.OnLiterals.{serde_json_on_literals}
use Rattle.mgmt_objects.proofs.laws.worked_entry_text.Goals as goal

pub returns-clause-plain : goal.returns-clause-plain
unfolding serde_json_on_literals digits
returns-clause-plain c = refl

pub returns-clause-numbered : goal.returns-clause-numbered
unfolding serde_json_on_literals digits
returns-clause-numbered c = refl
