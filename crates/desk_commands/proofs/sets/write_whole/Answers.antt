use Rattle.desk_commands.proofs.Answering.{makes_then, adds_whole}
use Rattle.desk_commands.proofs.sets.write_whole.Goals as goal

pub returns-clause-writes : goal.returns-clause-writes
returns-clause-writes g c =
    makes_then c.in_ok-write_set.ensures.writes (adds_whole c.args.number c.args.label.now) _ (rw c.as_slice.ensures.value at c.write_modules.ensures.writes)
