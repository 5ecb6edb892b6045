use Rattle.desk_commands.proofs.Answering.{None, Some, found_then_makes}
use Rattle.desk_commands.proofs.OfferingLemmas.{offer_becomes}
use Rattle.desk_commands.proofs.offering.offer_anew.Goals as goal

pub returns-in-Some-clause-writes : goal.returns-in-Some-clause-writes
returns-in-Some-clause-writes g c =
    found_then_makes (rw c.in-Some.is at c.in_ok-offer.ensures.reads)
    (λ l next is w. offer_becomes c.args.id.now c.args.from l next w (Some c.in-Some.offer) is) _
    c.change_offer.ensures.writes

pub returns-in-None-clause-writes : goal.returns-in-None-clause-writes
returns-in-None-clause-writes g c =
    found_then_makes (rw c.in-None.is at c.in_ok-offer.ensures.reads) (λ l next is w. offer_becomes c.args.id.now c.args.from l next w None is) _
    c.drop_offer.ensures.writes
