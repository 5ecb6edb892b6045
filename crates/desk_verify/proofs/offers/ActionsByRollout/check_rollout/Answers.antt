use Rattle.desk_verify.proofs.Common.{Err, length, sym, ap, ◌∙◌, both_found, finds_as, Broken, Actions, blamed, AgreesOffers, IsRowOffered, JudgesOne, subst}
use Rattle.desk_verify.proofs.ActionLemmas.{fails_broken as no_actions}
use Rattle.desk_verify.proofs.GroupLemmas.{fails_broken as no_groups}
use Rattle.desk_verify.proofs.OfferLemmas.{judged_due}
use Rattle.desk_verify.proofs.RolloutLemmas.{rollout_there}
use Rattle.desk_verify.proofs.offers.ActionsByRollout.check_rollout.Goals as goal

pub returns-clause-judges : goal.returns-clause-judges
returns-clause-judges g c =
    let offered = rw (c.deref.ensures.value, c.deref-2.ensures.value) at c.in_ok-offered.ensures.judges in
    let count = c.len.ensures ∙ sym c.deref-2.ensures.len ∙ ap length c.deref-2.ensures.value in
    finds_as (both_found (rw c.in-Some.is at c.in_ok-groups.ensures.reads) (both_found (rw c.in-Some-2.is at c.in_ok-actions.ensures.reads) offered))
    (λ t is its. subst (JudgesOne Actions 2 IsRowOffered (λ t r. Unit) AgreesOffers t c.args.rollout.now.number) (sym c.then_some.ensures)
    (judged_due t is.0 is.1.0 (rollout_there t c.args.rollout.now.number c.args.rollout.now.rollout its) c.in_ok-offered.offered is.1.1 c.len.result count))

pub returns-in_default-clause-blames : goal.returns-in_default-clause-blames
returns-in_default-clause-blames g c = blamed (rw c.in_default.is at c.in_ok-groups.ensures.reads) (Err Broken)
    (λ reading is given. absurd (no_groups reading.tables c.args.rollout.now.number is given.given.checks.agree.1.1.0))

pub returns-in_default-2-clause-blames : goal.returns-in_default-2-clause-blames
returns-in_default-2-clause-blames g c =
    blamed (both_found c.in_ok-groups.ensures.reads (rw c.in_default-2.is at c.in_ok-actions.ensures.reads)) (Err Broken)
    (λ reading is given. absurd (no_actions reading.tables c.args.rollout.now.number is.1 given.given.checks.agree.1.1.1.0))
