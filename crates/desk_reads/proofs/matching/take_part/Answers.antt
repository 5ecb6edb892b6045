use Rattle.desk_reads.proofs.Common.{◌≡◌, ap, ◌∙◌, arith, drop, take}
use Rattle.desk_reads.proofs.matching.take_part.Goals as goal

pub returns-clause-part : goal.returns-clause-part
returns-clause-part c =
    let all : c.loop.counter ≡ 100 = omega arith in
    c.loop.invariant.0 ∙ ap (λ n. take n c.args.left.now.items) all

pub returns-clause-left : goal.returns-clause-left
returns-clause-left c =
    let all : c.loop.counter ≡ 100 = omega arith in
    c.loop.invariant.1 ∙ ap (λ n. drop n c.args.left.now.items) all
