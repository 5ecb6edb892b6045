use Rattle.target_filter.proofs.Common.{length}
use Rattle.target_filter.proofs.pattern.+matches_behind.Given as goal

abbrev pub decreases-matches_behind : goal.decreases-matches_behind
decreases-matches_behind l = length l.pattern.now
