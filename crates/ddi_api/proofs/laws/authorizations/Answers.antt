use Rattle.ddi_api.proofs.Common.{refl}
use Rattle.ddi_api.proofs.laws.authorizations.Goals as goal

pub returns-clause-token : goal.returns-clause-token
returns-clause-token c = refl
