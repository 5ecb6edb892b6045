use Rattle.desk_commands.proofs.Answering.{length}
use Rattle.desk_commands.proofs.targets.+add_tags.Given as goal

abbrev pub decreases-add_tags : goal.decreases-add_tags
decreases-add_tags g l = length l.tags.now
