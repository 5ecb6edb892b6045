use Rattle.request_target.proofs.Common.{arith, sym, ap, ◌∙◌, list_all}
use Rattle.std.proofs.lemmas.List.{take_all}
use Rattle.request_target.proofs.SegmentLemmas.{cut, one_segment, no_slash}
use Rattle.request_target.proofs.path_segments.slash_at.Goals as goal

pub returns-then-byte-eq47-clause-cut : goal.returns-then-byte-eq47-clause-cut
returns-then-byte-eq47-clause-cut c = cut c.args.path.now c.loop-at.at (omega arith) c.if-byte-eq47.true c.loop-at.invariant

pub returns-clause-bound : goal.returns-clause-bound
returns-clause-bound c = one_segment c.args.path.now (ap (list_all no_slash) (sym (take_all c.loop-at.at c.args.path.now (omega arith))) ∙ c.loop-at.invariant)

pub returns-clause-cut : goal.returns-clause-cut
returns-clause-cut c = one_segment c.args.path.now (ap (list_all no_slash) (sym (take_all c.loop-at.at c.args.path.now (omega arith))) ∙ c.loop-at.invariant)
