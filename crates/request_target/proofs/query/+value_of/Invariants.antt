use Rattle.request_target.proofs.Common.{length}
use Rattle.request_target.proofs.query.+value_of.Given as goal

abbrev pub decreases-value_of : goal.decreases-value_of
decreases-value_of l = length l.pairs.now
