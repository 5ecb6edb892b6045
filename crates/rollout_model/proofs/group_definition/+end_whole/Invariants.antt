use Rattle.std.proofs.Common.{length}
use Rattle.rollout_model.proofs.group_definition.+end_whole.Given as goal

abbrev pub decreases-end_whole : goal.decreases-end_whole
decreases-end_whole l = length l.definitions.now
