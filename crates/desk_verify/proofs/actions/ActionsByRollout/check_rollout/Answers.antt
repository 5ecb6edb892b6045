use Rattle.desk_verify.proofs.Common.{◌≡◌, length, sym, ap, subst, ◌∙◌, both_found, finds_as, Actions, AreActionsWhole, count_none}
use Rattle.desk_verify.proofs.Common.{AgreesActions, IsRightAction, JudgesOne}
use Rattle.desk_verify.proofs.ActionLemmas.{fails, fails_broken, judged_started, waiting}
use Rattle.desk_verify.proofs.actions.ActionsByRollout.check_rollout.Goals as goal

pub returns-in_default-clause-judges : goal.returns-in_default-clause-judges
returns-in_default-clause-judges g c = finds_as (rw c.in_default.is at c.in_ok-actions.ensures.reads)
    (λ t is there. fails_broken t c.args.rollout.now.number is)

pub returns-then-not-rollout-clause-judges : goal.returns-then-not-rollout-clause-judges
returns-then-not-rollout-clause-judges g c =
    let count : c.count_none.result ≡ count_none c.in-Some.actions.items = c.count_none.ensures ∙ ap count_none c.deref.ensures.value in
    finds_as (rw c.in-Some.is at c.in_ok-actions.ensures.reads)
    (λ t is there. subst (JudgesOne Actions 2 IsRightAction AreActionsWhole AgreesActions t c.args.rollout.now.number) (sym count)
    (waiting there c.if-not-rollout.true c.in-Some.actions.items is))

pub returns-then-not-are_for-clause-judges : goal.returns-then-not-are_for-clause-judges
returns-then-not-are_for-clause-judges g c =
    let told = rw (c.deref-2.ensures.value, c.deref-3.ensures.value) at (sym c.are_for.ensures ∙ c.if-not-are_for.true) in
    finds_as (both_found (rw c.in-Some.is at c.in_ok-actions.ensures.reads) c.in_ok-members.ensures.reads)
    (λ t is there. fails there c.if-not-rollout.false is.0 is.1 told)

pub returns-clause-judges : goal.returns-clause-judges
returns-clause-judges g c =
    let told = rw (c.deref-2.ensures.value, c.deref-3.ensures.value) at (sym c.are_for.ensures ∙ c.if-not-are_for.false) in
    let count = c.len.ensures ∙ sym c.deref-3.ensures.len ∙ ap length c.deref-3.ensures.value in
    finds_as (both_found (rw c.in-Some.is at c.in_ok-actions.ensures.reads) (both_found c.in_ok-members.ensures.reads c.in_ok-fit.ensures.judges))
    (λ t is there. subst (JudgesOne Actions 2 IsRightAction AreActionsWhole AgreesActions t c.args.rollout.now.number) (sym c.then_some.ensures)
    (judged_started there c.if-not-rollout.false is.0 is.1.0 told c.in_ok-fit.fit (rw c.deref-4.ensures.value at is.1.1) c.len.result count))
