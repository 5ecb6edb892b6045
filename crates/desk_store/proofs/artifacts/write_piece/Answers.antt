use Rattle.desk_store.proofs.Answering.{adds_piece, arith, put_piece_is, puts, writes}
use Rattle.desk_store.proofs.artifacts.write_piece.Goals as goal

pub returns-clause-writes : goal.returns-clause-writes
returns-clause-writes g c = writes (puts put_piece_is) (adds_piece c.args.number c.args.sequence c.args.bytes.now _ _ _) c.run.ensures.runs (grind arith)
