use Rattle.target_filter.proofs.Common.{arith, sym, ap, ◌∙◌, list_all, take_all}
use Rattle.target_filter.proofs.GreedyMatching.{cut, one_piece, no_star}
use Rattle.target_filter.proofs.pattern.star_at.Goals as goal

pub returns-then-byte-eq42-clause-cut : goal.returns-then-byte-eq42-clause-cut
returns-then-byte-eq42-clause-cut c = cut c.args.pattern.now c.loop-at.at (omega arith) c.if-byte-eq42.true c.loop-at.invariant

pub returns-clause-bound : goal.returns-clause-bound
returns-clause-bound c = one_piece c.args.pattern.now (ap (list_all no_star) (sym (take_all c.loop-at.at c.args.pattern.now (omega arith)))
    ∙ c.loop-at.invariant)

pub returns-clause-cut : goal.returns-clause-cut
returns-clause-cut c = one_piece c.args.pattern.now (ap (list_all no_star) (sym (take_all c.loop-at.at c.args.pattern.now (omega arith))) ∙ c.loop-at.invariant)
