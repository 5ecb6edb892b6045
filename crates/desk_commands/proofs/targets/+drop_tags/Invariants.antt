use Rattle.desk_commands.proofs.Answering.{length}
use Rattle.desk_commands.proofs.targets.+drop_tags.Given as goal

abbrev pub decreases-drop_tags : goal.decreases-drop_tags
decreases-drop_tags g l = length l.had.now
