use Rattle.mgmt_api.proofs.Facts.{text_of-Refused}
use Rattle.mgmt_api.proofs.laws.refused_text.Goals as goal

pub returns : goal.returns
returns c = text_of-Refused
