use Rattle.rollout_machine.proofs.OfferFrames.{offers_stay}
use Rattle.rollout_machine.proofs.OfferSteps.{offers_follow}
use Rattle.rollout_machine.proofs.Offering.{downloads_are_offered, named_is_offerable}
use Rattle.rollout_machine.proofs.Offers.{offer_is_least}
use Rattle.rollout_machine.proofs.laws.offers.Goals as goal

pub returns-clause-offer_is_least : goal.returns-clause-offer_is_least
returns-clause-offer_is_least c = offer_is_least

pub returns-clause-named_is_offerable : goal.returns-clause-named_is_offerable
returns-clause-named_is_offerable c = named_is_offerable

pub returns-clause-downloads_are_offered : goal.returns-clause-downloads_are_offered
returns-clause-downloads_are_offered c = downloads_are_offered

pub returns-clause-offers_stay : goal.returns-clause-offers_stay
returns-clause-offers_stay c = offers_stay

pub returns-clause-offers_follow : goal.returns-clause-offers_follow
returns-clause-offers_follow c = offers_follow
