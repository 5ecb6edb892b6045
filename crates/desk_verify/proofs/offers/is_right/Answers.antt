use Rattle.desk_verify.proofs.Common.{finds_as, found_then}
use Rattle.desk_verify.proofs.OfferLemmas.{by_group, other_action}
use Rattle.desk_verify.proofs.offers.is_right.Goals as goal

pub returns-then-not-fits-clause-judges : goal.returns-then-not-fits-clause-judges
returns-then-not-fits-clause-judges g c =
    finds_as (rw c.in-Some.is at c.in_ok-action.ensures.reads)
    (λ t is kept. (other_action t is (rw c.if-not-fits.true at c.fits.ensures), kept))

pub returns-clause-judges : goal.returns-clause-judges
returns-clause-judges g c =
    found_then (rw c.in-Some.is at c.in_ok-action.ensures.reads) c.is_in_started_group.result c.is_in_started_group.ensures.judges
    (λ t started one is kept. let it = is kept in
    (by_group t one (rw c.if-not-fits.false at c.fits.ensures) started it.0, it.1))
