use Rattle.sql_front.proofs.Common.{length}
use Rattle.sql_front.proofs.comparison.+same_columns.Given as goal

abbrev pub decreases-same_columns : goal.decreases-same_columns
decreases-same_columns l = length l.a.now
