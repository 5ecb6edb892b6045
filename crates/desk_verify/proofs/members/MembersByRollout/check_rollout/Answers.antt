use Rattle.desk_verify.proofs.Common.{length, sym, ap, subst, ◌∙◌, finds_as, Members, follow, AgreesMembers, IsInPlace, JudgesOne}
use Rattle.std.specs.Bool.{then_some}
use Rattle.desk_verify.proofs.Follow.{breaks}
use Rattle.desk_verify.proofs.MemberLemmas.{judged_members}
use Rattle.desk_verify.proofs.RolloutLemmas.{rollout_there}
use Rattle.desk_verify.proofs.members.MembersByRollout.check_rollout.Goals as goal

pub returns-in_default-clause-judges : goal.returns-in_default-clause-judges
returns-in_default-clause-judges g c = finds_as (rw c.in_default.is at c.in_ok-members.ensures.reads) (λ t is its. breaks t c.args.rollout.now.number is)

pub returns-clause-judges : goal.returns-clause-judges
returns-clause-judges g c =
    let told = c.then_some.ensures ∙ ap (λ b. then_some b c.len.result) (c.are_in_place.ensures ∙ ap (follow 0) c.deref.ensures.value) in
    let count = c.len.ensures ∙ sym c.deref.ensures.len ∙ ap length c.deref.ensures.value in
    finds_as (rw c.in-Some.is at c.in_ok-members.ensures.reads)
    (λ t is its. subst (JudgesOne Members 1 IsInPlace (λ t r. Unit) AgreesMembers t c.args.rollout.now.number) (sym told)
    (judged_members t c.args.rollout.now.number c.in-Some.members.items c.len.result
    (rollout_there t c.args.rollout.now.number c.args.rollout.now.rollout its) is count))
