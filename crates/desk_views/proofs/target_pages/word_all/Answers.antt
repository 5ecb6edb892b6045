use Rattle.desk_views.proofs.Common.{arith, map-append}
use Rattle.desk_views.proofs.Answering.{map, ap, ◌∙◌, rules, both_found, finds_as, worded, all_given}
use Rattle.std.specs.Result.{is_ok}
use Rattle.desk_store.proofs.CallsInTurn.{stays_then}
use Rattle.desk_views.proofs.target_pages.word_all.Goals as goal

pub returns-in-Err-clause-stays : goal.returns-in-Err-clause-stays
returns-in-Err-clause-stays g c = let it = stays_then c.loop-target.invariant.stays _ c.in_ok-shown.ensures.stays in grind arith

pub loop-target-preserved : goal.loop-target-preserved
loop-target-preserved g c = record {
  stays = search rules;
  fails = search rules;
  reads = finds_as
      (both_found c.loop-target.invariant.reads c.in_ok-shown.ensures.reads)
      (λ r is. grind (arith, map-append, rw (ap is_ok c.in-Ok.is) at c.push.ensures.items));
}

pub returns-clause-reads : goal.returns-clause-reads
returns-clause-reads g c =
    let all = all_given c.into_iter-target-iterator.result _ c.next.new.self _ _ c.into_iter-target-iterator.ensures.into_iter_gives.0 c.loop-target.yielded_by
    c.in-None.ensures.steps in
    finds_as c.loop-target.invariant.reads (λ r is. is ∙ ap (λ l. map (worded r) l) all)
