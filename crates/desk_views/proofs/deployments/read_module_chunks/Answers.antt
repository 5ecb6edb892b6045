use Rattle.desk_views.proofs.Common.{arith, append-nil}
use Rattle.desk_views.proofs.DeviceViews.{chunks_join}
use Rattle.desk_views.proofs.Answering.{ap, ◌∙◌, rules, both_found, finds_as, chunks_of, all_given}
use Rattle.desk_views.proofs.deployments.read_module_chunks.Goals as goal

pub loop-module_number-preserved : goal.loop-module_number-preserved
loop-module_number-preserved g c = record {
  stays = search rules;
  fails = search rules;
  reads = finds_as (both_found c.loop-module_number.invariant.reads c.in_ok-add_chunk.ensures.reads)
      (λ r is. grind (arith, append-nil, chunks_join));
}

pub returns-clause-reads : goal.returns-clause-reads
returns-clause-reads g c =
    let all = all_given c.into_iter-module_number-iterator.result _ c.next.new.self _ _ c.into_iter-module_number-iterator.ensures.into_iter_gives.0
    c.loop-module_number.yielded_by c.in-None.ensures.steps in
    finds_as c.loop-module_number.invariant.reads (λ r is. is ∙ ap (chunks_of r) all)
