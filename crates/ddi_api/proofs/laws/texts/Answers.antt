use Rattle.ddi_api.proofs.Common.{refl}
use Rattle.ddi_api.proofs.Facts.{text_of-Refused}
use Rattle.hex.specs.Hex.{encode_with}
use Rattle.http_wire.specs.Replies.{reason}
use Rattle.serde_json.proofs.OnLiterals.{serde_json_on_literals}
use Rattle.std.specs.Fmt.{digits}
use Rattle.ddi_api.proofs.laws.texts.Goals as goal

pub returns-clause-refused : goal.returns-clause-refused
returns-clause-refused c = text_of-Refused

pub returns-clause-poll_reply : goal.returns-clause-poll_reply
unfolding serde_json_on_literals digits reason
returns-clause-poll_reply c = refl

pub returns-clause-poll : goal.returns-clause-poll
unfolding serde_json_on_literals digits
returns-clause-poll c = refl

pub returns-clause-offer : goal.returns-clause-offer
unfolding serde_json_on_literals digits
returns-clause-offer c = refl

pub returns-clause-cancel : goal.returns-clause-cancel
unfolding serde_json_on_literals digits
returns-clause-cancel c = refl

pub returns-clause-deployment : goal.returns-clause-deployment
unfolding serde_json_on_literals digits encode_with
returns-clause-deployment c = refl
