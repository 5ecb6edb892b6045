use Rattle.desk_verify.proofs.Common.{rules, all_has, both_found, finds_as, IsRight}
use Rattle.sqlite_rules.proofs.ListLemmas.{all_more, has_at}
use Rattle.desk_verify.proofs.offers.are_right.Goals as goal

pub returns-then-not-branch-clause-judges : goal.returns-then-not-branch-clause-judges
returns-then-not-branch-clause-judges g c =
    let wrong = rw c.if-not-branch.true at c.in_ok-is_right.ensures.judges in
    finds_as (both_found c.loop-offer.invariant.judged wrong)
    (λ t is right. (is.1 is.0.0).0
    (all_has (IsRight t) c.args.offers.now c.offer-item.result right
    (has_at c.args.offers.now c.loop-offer.offer-index c.offer-item.result c.loop-offer-test.true c.offer-item.is)))

pub returns-in_err-is_right-clause-blames : goal.returns-in_err-is_right-clause-blames
returns-in_err-is_right-clause-blames g c = search rules

pub loop-offer-preserved : goal.loop-offer-preserved
loop-offer-preserved g c = record {
  stays = search rules;
  blames = search rules;
  judged = finds_as (both_found c.loop-offer.invariant.judged (rw c.if-not-branch.false at c.in_ok-is_right.ensures.judges))
      (λ t is. let it = is.1 is.0.0 in
      (it.1, all_more (IsRight t) c.args.offers.now c.loop-offer.offer-index c.offer-item.result c.loop-offer-test.true c.offer-item.is is.0.1 it.0));
}
