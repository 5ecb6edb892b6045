use Rattle.desk_verify.proofs.Common.{finds_as}
use Rattle.desk_verify.proofs.OfferLemmas.{no_offer}
use Rattle.desk_verify.proofs.offers.is_offered.Goals as goal

pub returns-in-None-clause-judges : goal.returns-in-None-clause-judges
returns-in-None-clause-judges g c = finds_as (rw c.in-None.is at c.in_ok-offer.ensures.reads) (λ t is. no_offer is)
