use Rattle.desk_views.proofs.MemberViews.{one_more}
use Rattle.std.proofs.lemmas.List.{take_more}
use Rattle.desk_views.proofs.Answering.{arith, ap, ◌∙◌, rules, take_all, both_found, finds_as, targets_of, targets_shown}
use Rattle.desk_store.proofs.CallsInTurn.{stays_end, stays_then}
use Rattle.desk_views.proofs.targets.read_targets.Goals as goal

pub returns-in_err-add_target-clause-stays : goal.returns-in_err-add_target-clause-stays
returns-in_err-add_target-clause-stays g c = stays_end (stays_then c.loop-id.invariant.stays _ c.in_err-add_target.ensures.stays) _ c.from_residual.ensures.1

pub loop-id-preserved : goal.loop-id-preserved
loop-id-preserved g c = record {
  stays = search rules;
  fails = search rules;
  reads = finds_as (both_found c.loop-id.invariant.reads c.in_ok-add_target.ensures.reads)
      (λ r is.
      let more = take_more c.args.ids.now c.loop-id.id-index c.id-item.result c.loop-id-test.true in
      grind (arith, more, c.id-item.is, one_more));
}

pub returns-clause-reads : goal.returns-clause-reads
returns-clause-reads g c =
    finds_as c.loop-id.invariant.reads
    (λ r is. is ∙ ap (λ ids. targets_shown r (targets_of r ids)) (take_all c.loop-id.id-index c.args.ids.now (omega (arith, c.loop-id-test.false))))
