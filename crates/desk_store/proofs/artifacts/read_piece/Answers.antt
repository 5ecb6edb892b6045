use Rattle.desk_store.proofs.Answering.{arith, first_at, first_fails, get_piece_is, piece_read}
use Rattle.desk_store.proofs.artifacts.read_piece.Goals as goal

pub returns-clause-reads : goal.returns-clause-reads
returns-clause-reads g c = piece_read c.args.number c.args.sequence (omega arith) (first_at c.in_ok-row.ensures.takes (grind arith)) _
    c.read_optional.ensures.ok

pub returns-clause-fails : goal.returns-clause-fails
returns-clause-fails g c = first_fails get_piece_is _ (λ row is. is) c.in_ok-row.ensures.takes _ c.read_optional.ensures.err
