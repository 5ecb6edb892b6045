use Rattle.desk_commands.proofs.Answering.{length}
use Rattle.desk_commands.proofs.artifacts.+write_pieces.Given as goal

abbrev pub decreases-write_pieces : goal.decreases-write_pieces
decreases-write_pieces g l = length l.bytes.now
