use Rattle.desk_verify.proofs.Common.{sym, subst, both_found, finds_as, SettlesWhether, AgreesOffers}
use Rattle.desk_verify.proofs.Causes.{all_offers, blamed_when}
use Rattle.desk_verify.proofs.OfferLemmas.{agrees, one_wrong, row_broken, sorted_said}
use Rattle.desk_verify.proofs.offers.check_offers.Goals as goal

pub returns-in_default-clause-judges : goal.returns-in_default-clause-judges
returns-in_default-clause-judges g c = finds_as (rw c.in_default.is at c.in_ok-listed.ensures.reads) row_broken

pub returns-then-not-branch-clause-judges : goal.returns-then-not-branch-clause-judges
returns-then-not-branch-clause-judges g c =
    finds_as (both_found (rw c.in-Some.is at c.in_ok-listed.ensures.reads)
    (rw (c.deref.ensures.value, c.if-not-branch.true) at c.in_ok-are_right.ensures.judges))
    (λ t is. one_wrong t (sorted_said c.in_action_order-offers.ensures is.0) is.1)

pub returns-clause-judges : goal.returns-clause-judges
returns-clause-judges g c =
    finds_as
    (both_found (rw c.in-Some.is at c.in_ok-listed.ensures.reads)
    (both_found (rw (c.deref.ensures.value, c.if-not-branch.false) at c.in_ok-are_right.ensures.judges) c.in_ok-offered.ensures.judges))
    (λ t is. subst (SettlesWhether (AgreesOffers t)) (sym c.is_some.ensures)
    (agrees t (sorted_said c.in_action_order-offers.ensures is.0) is.1.0 c.in_ok-offered.offered is.1.1))

pub returns-in_err-offered-clause-blames : goal.returns-in_err-offered-clause-blames
returns-in_err-offered-clause-blames g c =
    blamed_when (both_found (rw c.in-Some.is at c.in_ok-listed.ensures.reads) c.in_ok-are_right.ensures.judges)
    c.in_err-offered.ensures.judges.wears c.in_err-offered.field-0.0 c.in_err-offered.ensures.blames
    (λ reading is given. record {
      rollouts = given.rollouts;
      rows = given.actions;
      given = record { checks = given; offers = all_offers reading.tables c.in-Some.listed.items is.0 };
    }) c.from_residual-in_err-offered.result c.from_residual-in_err-offered.ensures.1
