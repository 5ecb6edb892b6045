use Rattle.rollout_machine.proofs.OfferActors.{group_offers_stay, offers_of_actor}
use Rattle.rollout_machine.proofs.OfferLaws.{offer_of_others, offers_of_no_start, offers_of_start, offers_step}
use Rattle.rollout_machine.proofs.laws.offers_of_commands.Goals as goal

pub returns-clause-starts_offer_the_lesser : goal.returns-clause-starts_offer_the_lesser
returns-clause-starts_offer_the_lesser c = offers_of_start

pub returns-clause-none_starts : goal.returns-clause-none_starts
returns-clause-none_starts c = offers_of_no_start

pub returns-clause-others_stay : goal.returns-clause-others_stay
returns-clause-others_stay c = offer_of_others

pub returns-clause-actors_are_sought : goal.returns-clause-actors_are_sought
returns-clause-actors_are_sought c = offers_of_actor

pub returns-clause-groups_stay : goal.returns-clause-groups_stay
returns-clause-groups_stay c = group_offers_stay

pub returns-clause-steps : goal.returns-clause-steps
returns-clause-steps c = offers_step
