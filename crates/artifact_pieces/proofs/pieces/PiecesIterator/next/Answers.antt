use Rattle.std.proofs.Common.{rules, sym, ◌∙◌}
use Rattle.artifact_pieces.proofs.PieceLemmas.{next_piece}
use Rattle.artifact_pieces.proofs.pieces.PiecesIterator.next.Goals as goal

pub returns-clause-steps : goal.returns-clause-steps
returns-clause-steps c =
    let before = rw c.self.invariant at c.if-self.false in
    sym c.self.view_is ∙ (rw c.min-len.ensures (next_piece c.self.inside.total c.self.inside.place before))

pub returns-clause-goes : goal.returns-clause-goes
returns-clause-goes c = rw (returns-clause-steps c) (search rules)
