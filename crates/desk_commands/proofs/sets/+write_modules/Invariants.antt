use Rattle.desk_commands.proofs.Answering.{length}
use Rattle.desk_commands.proofs.sets.+write_modules.Given as goal

abbrev pub decreases-write_modules : goal.decreases-write_modules
decreases-write_modules g l = length l.modules.now
