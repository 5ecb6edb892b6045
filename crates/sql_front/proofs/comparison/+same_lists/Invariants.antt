use Rattle.sql_front.proofs.Common.{length}
use Rattle.sql_front.proofs.comparison.+same_lists.Given as goal

abbrev pub decreases-same_lists : goal.decreases-same_lists
decreases-same_lists l = length l.a.now
