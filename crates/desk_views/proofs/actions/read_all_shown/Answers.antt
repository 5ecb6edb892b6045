use Rattle.desk_views.proofs.Answering.{map, ap, ◌∙◌, arith, rules, take_all, both_found, finds_as, listed_shown, more_shown}
use Rattle.std.specs.Result.{is_ok}
use Rattle.desk_views.proofs.actions.read_all_shown.Goals as goal

pub loop-one-preserved : goal.loop-one-preserved
loop-one-preserved g c = record {
  stays = search rules;
  fails = search rules;
  reads = finds_as (both_found c.loop-one.invariant.reads c.in_ok-shown.ensures.reads)
      (λ r is of. more_shown (listed_shown r) c.args.listed.now c.loop-one.one-index c.one-item.result _ _ _ c.loop-one-test.true c.one-item.is (is.0 of)
      (is.1 of) (rw (ap is_ok c.in-Ok.is) at c.push.ensures.items));
}

pub returns-clause-reads : goal.returns-clause-reads
returns-clause-reads g c =
    finds_as c.loop-one.invariant.reads
    (λ r is of. is of ∙ ap (map (listed_shown r)) (take_all c.loop-one.one-index c.args.listed.now (omega (arith, c.loop-one-test.false))))
