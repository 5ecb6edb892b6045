use Rattle.desk_verify.proofs.Common.{length, sym, ap, subst, ◌∙◌, both_found, finds_as, Groups, AgreesGroups, HasEach, IsInRollout, JudgesOne}
use Rattle.std.specs.Bool.{then_some}
use Rattle.desk_verify.proofs.GroupLemmas.{fails_broken, judged_groups}
use Rattle.desk_verify.proofs.RuleLemmas.{found_count}
use Rattle.desk_verify.proofs.groups.GroupsByRollout.check_rollout.Goals as goal

pub returns-in_default-clause-judges : goal.returns-in_default-clause-judges
returns-in_default-clause-judges g c =
    finds_as (both_found c.in_ok-grouping.ensures.reads (both_found c.in_ok-members.ensures.reads (rw c.in_default.is at c.in_ok-groups.ensures.reads)))
    (λ t is its. fails_broken t c.args.rollout.now.number is.1.1)

pub returns-clause-judges : goal.returns-clause-judges
returns-clause-judges g c =
    let told = c.then_some.ensures ∙ ap (λ b. then_some b c.len.result) (rw (c.deref.ensures.value, c.deref-2.ensures.value) at c.in-Ok.ensures) in
    let count = c.len.ensures ∙ sym c.deref.ensures.len ∙ ap length c.deref.ensures.value in
    finds_as (both_found c.in_ok-grouping.ensures.reads
    (both_found c.in_ok-members.ensures.reads (both_found (rw c.in-Some.is at c.in_ok-groups.ensures.reads) c.in_ok-actions.ensures.reads)))
    (λ t is its. subst (JudgesOne Groups 1 IsInRollout HasEach AgreesGroups t c.args.rollout.now.number) (sym told)
    (judged_groups (is.0 its) is.1.0 is.1.1.0 is.1.1.1 c.args.rollout.now.rollout.plan.groups c.len.result
    (found_count t c.args.rollout.now.number c.args.rollout.now.rollout its.is) count its.low))
