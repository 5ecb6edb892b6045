use Rattle.desk_commands.proofs.Answering.{makes_then, adds_parts}
use Rattle.desk_commands.proofs.artifacts.write_whole.Goals as goal

pub returns-clause-writes : goal.returns-clause-writes
returns-clause-writes g c =
    makes_then c.in_ok-write_artifact.ensures.writes (adds_parts c.args.module_number c.args.artifact.now c.args.contents.now) _
    (rw c.as_slice.ensures.value at c.write_pieces.ensures.writes)
