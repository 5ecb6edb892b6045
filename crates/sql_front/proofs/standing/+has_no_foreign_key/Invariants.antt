use Rattle.sql_front.proofs.Common.{length}
use Rattle.sql_front.proofs.standing.+has_no_foreign_key.Given as goal

abbrev pub decreases-has_no_foreign_key : goal.decreases-has_no_foreign_key
decreases-has_no_foreign_key l = length l.tables.now
