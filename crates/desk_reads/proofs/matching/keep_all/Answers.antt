use Rattle.desk_reads.proofs.Common.{arith, ap, ◌∙◌, take, both_found, finds_as}
use Rattle.std.proofs.Common.{rules}
use Rattle.sql_calls.proofs.Composing.{known}
use Rattle.desk_reads.proofs.ListFailLemmas.{fails_out, stays_out}
use Rattle.desk_store.proofs.CallsInTurn.{stays_end, stays_then}
use Rattle.desk_reads.proofs.Matches.{all_kept, next_kept, next_left, next_ordered, one_part_more, parts_ended}
use Rattle.desk_reads.specs.Matches.{is_matched}
use Rattle.desk_reads.proofs.matching.keep_all.Goals as goal

pub loop-init : goal.loop-init
loop-init g c = record {
  stays = search rules;
  fails = search rules;
  left = c.from-left.ensures.0;
  work = omega arith;
  reads = known (λ r ordered f tree. c.new-ids.ensures.items);
}

pub loop-preserved : goal.loop-preserved
loop-preserved g c =
    let part = c.in_ok-part.ensures.part ∙ ap (take 100) c.loop.invariant.left in
    record {
      stays = search rules;
      fails = search rules;
      left = next_left c.loop.counter c.args.listed.items c.loop.left.items _ c.loop.invariant.left c.in_ok-part.ensures.left;
      work = one_part_more _ _ _ _ c.loop.counter c.loop.invariant.work c.in_ok-keep_part.ensures.work;
      reads = finds_as (both_found c.loop.invariant.reads c.in_ok-keep_part.ensures.reads)
          (λ r is ordered f tree. next_kept (is_matched r f) c.args.listed.items c.loop.counter c.loop.ids.items _ c.in_ok-part.part.items part
          (is.0 ordered f tree) (is.1 (next_ordered c.args.listed.items ordered c.loop.counter c.in_ok-part.part.items part) f tree));
    }

pub returns-clause-reads : goal.returns-clause-reads
returns-clause-reads g c = finds_as c.loop.invariant.reads (λ r is ordered f tree.
    all_kept (is_matched r f) c.args.listed.items c.loop.ids.items c.loop.counter
    (omega (arith, c.loop-test.false, c.loop.auto.counter-end, c.div_ceil-parts.ensures)) (is ordered f tree))

pub returns-clause-work : goal.returns-clause-work
returns-clause-work g c = parts_ended _ _ _ c.loop.counter _ c.loop.invariant.work
    (omega (arith, c.loop-test.false, c.loop.auto.counter-end, c.div_ceil-parts.ensures))

pub returns-in_err-part-clause-stays : goal.returns-in_err-part-clause-stays
returns-in_err-part-clause-stays g c = stays_out c.loop.invariant.stays _ c.in_err-part.ensures.err _ c.from_residual.ensures.1

pub returns-in_err-part-clause-fails : goal.returns-in_err-part-clause-fails
returns-in_err-part-clause-fails g c = fails_out c.loop.invariant.fails _ c.in_err-part.ensures.err _ c.from_residual.ensures.1

pub returns-in_err-keep_part-clause-stays : goal.returns-in_err-keep_part-clause-stays
returns-in_err-keep_part-clause-stays g c =
    stays_end (stays_then c.loop.invariant.stays _ c.in_err-keep_part.ensures.stays) _ c.from_residual-in_err-keep_part.ensures.1

pub returns-in_err-keep_part-clause-fails : goal.returns-in_err-keep_part-clause-fails
returns-in_err-keep_part-clause-fails g c = search (c.loop.invariant.fails, c.in_err-keep_part.ensures.fails, rules)
