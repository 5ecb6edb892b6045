use Rattle.desk_verify.proofs.Common.{◌≡◌, ◌≤◌, ◌+◌, ◌^◌, Err, arith, rules, refl, subst, Broken, both_found, finds_as, AreChecked, blamed, within}
use Rattle.desk_verify.proofs.Causes.{blamed_when, listed_many, up_to}
use Rattle.desk_store.proofs.CallsInTurn.{stays_end, stays_then}
use Rattle.desk_verify.proofs.RolloutLemmas.{none_yet, one_more}
use Rattle.desk_verify.proofs.rollouts.check_rollouts.Goals as goal

pub loop-before-init : goal.loop-before-init
loop-before-init g c = record { stays = search rules; blames = search rules; judged = finds_as c.in_ok-last.ensures.tells (λ t is. (is, none_yet)) }

pub returns-in_default-clause-judges : goal.returns-in_default-clause-judges
returns-in_default-clause-judges g c =
    finds_as (both_found c.loop-before.invariant.judged (both_found c.in_ok-rollout.ensures.reads (rw c.in_default.is at c.in_ok-count.ensures.judges)))
    (λ t is. is.1.1 is.1.0)

pub loop-before-preserved : goal.loop-before-preserved
loop-before-preserved g c =
    let sum : c.in-Some-checked_add.sum ≡ c.loop-before.listed + c.in-Some.count = grind (arith, c.in-Some-checked_add.ensures) in
    record {
      stays = search rules;
      blames = search rules;
      judged = finds_as (both_found c.loop-before.invariant.judged (both_found c.in_ok-rollout.ensures.reads (rw c.in-Some.is at c.in_ok-count.ensures.judges)))
          (λ t is. (
            is.0.0,
            one_more c.in-Some-checked_add.sum c.in_ok-rollout.rollout.number is.0.1 c.in_ok-rollout.ensures.number (is.1.1 is.1.0) sum,
          ));
    }

pub returns-clause-judges : goal.returns-clause-judges
returns-clause-judges g c =
    let last : c.loop-before.before ≡ c.in_ok-last.last = omega (arith, c.loop-before-test.false, c.loop-before.auto.before-end) in
    finds_as c.loop-before.invariant.judged
    (λ t is. record {
      last = c.in_ok-last.last;
      is_last = is.0;
      checked =
          subst (λ n. AreChecked g.T.ByRollout.table g.T.ByRollout.column g.T.ByRollout.is_right g.T.ByRollout.is_whole t n c.loop-before.listed) last is.1;
    })

pub returns-in_err-rollout-clause-blames : goal.returns-in_err-rollout-clause-blames
returns-in_err-rollout-clause-blames g c =
    blamed_when c.loop-before.invariant.judged c.in_err-rollout.ensures.reads.wears c.in_err-rollout.field-0.0
    c.in_err-rollout.ensures.blames
    (λ reading is given. record {
      up = up_to reading.tables c.loop-before.before c.in_ok-last.last is.0 c.loop-before-test.true;
      rollouts = given.rollouts;
    }) c.from_residual-in_err-rollout.result c.from_residual-in_err-rollout.ensures.1

pub returns-in_err-count-clause-stays : goal.returns-in_err-count-clause-stays
returns-in_err-count-clause-stays g c =
    stays_end (stays_then c.loop-before.invariant.stays _ (stays_then c.in_ok-rollout.ensures.stays _ c.in_err-count.ensures.stays)) _
    c.from_residual-in_err-count.ensures.1

pub returns-in_err-count-clause-blames : goal.returns-in_err-count-clause-blames
returns-in_err-count-clause-blames g c =
    blamed_when (both_found c.loop-before.invariant.judged c.in_ok-rollout.ensures.reads) c.in_err-count.ensures.judges.wears
    c.in_err-count.field-0.0 c.in_err-count.ensures.blames (λ reading is given. record { has = is.1; given = given.given }) c.from_residual-in_err-count.result
    c.from_residual-in_err-count.ensures.1

pub returns-in-None-clause-blames : goal.returns-in-None-clause-blames
returns-in-None-clause-blames g c =
    let large : 2 ^ 32 ≤ c.loop-before.listed + c.in-Some.count = grind (arith, c.in-None.ensures) in
    blamed (both_found c.loop-before.invariant.judged (both_found c.in_ok-rollout.ensures.reads (rw c.in-Some.is at c.in_ok-count.ensures.judges)))
    (Err Broken)
    (λ reading is given. listed_many reading g.T.ByRollout.table (within g.T.ByRollout.column (c.loop-before.before + 1))
    (c.loop-before.listed + c.in-Some.count)
    (one_more (c.loop-before.listed + c.in-Some.count) c.in_ok-rollout.rollout.number is.0.1 c.in_ok-rollout.ensures.number (is.1.1 is.1.0) refl).rows.all
    large given.rows)
