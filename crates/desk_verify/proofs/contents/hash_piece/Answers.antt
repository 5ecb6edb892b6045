use Rattle.desk_verify.proofs.Common.{◌≡◌, length, sym, ap, ◌∙◌, finds_as}
use Rattle.desk_verify.proofs.PieceChecks.{other_length}
use Rattle.desk_verify.proofs.contents.hash_piece.Goals as goal

pub returns-then-piece-size-clause-judges : goal.returns-then-piece-size-clause-judges
returns-then-piece-size-clause-judges g c =
    let single : length c.in_ok-pieces.pieces.items ≡ 1 = sym c.in_ok-pieces.pieces.ok.0 ∙ sym c.len.ensures ∙ c.if-len-ne1.false in
    finds_as c.in_ok-pieces.ensures.reads
    (λ t is. other_length t c.args.number c.args.place c.args.size c.in_ok-pieces.pieces.items c.index.result.now single c.index.ensures
    (λ same. c.if-piece-size.true (ap length c.as_slice-piece.ensures.value ∙ same)) is)
