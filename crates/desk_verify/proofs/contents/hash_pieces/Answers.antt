use Rattle.desk_verify.proofs.Common.{◌<◌, arith, rules, piece_count, both_found, finds_as}
use Rattle.desk_verify.proofs.PieceChecks.{more_hashed, none_fits}
use Rattle.desk_verify.proofs.contents.hash_pieces.Goals as goal

pub returns-then-not-branch-clause-judges : goal.returns-then-not-branch-clause-judges
returns-then-not-branch-clause-judges g c =
    let few : c.loop-before.before < piece_count c.args.size = omega (arith, c.loop-before-test.true, c.count_pieces-before-end.ensures.count) in
    finds_as (both_found c.loop-before.invariant.judged (rw c.if-not-branch.true at c.in_ok-hash_piece.ensures.judges))
    (λ t is. none_fits t c.args.number c.args.size c.loop-before.before c.min.result few c.min.ensures is.1)

pub loop-before-preserved : goal.loop-before-preserved
loop-before-preserved g c =
    let few : c.loop-before.before < piece_count c.args.size = omega (arith, c.loop-before-test.true, c.count_pieces-before-end.ensures.count) in
    record {
      stays = search rules;
      blames = search rules;
      judged = finds_as (both_found c.loop-before.invariant.judged (rw c.if-not-branch.false at c.in_ok-hash_piece.ensures.judges))
          (λ t is. more_hashed t c.args.number c.args.size c.loop-before.before c.min.result _ _ few c.min.ensures is.0 is.1);
    }
