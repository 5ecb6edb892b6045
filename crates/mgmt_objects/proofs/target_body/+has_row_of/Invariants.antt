use Rattle.mgmt_objects.proofs.Common.{length}
use Rattle.mgmt_objects.proofs.target_body.+has_row_of.Given as goal

abbrev pub decreases-has_row_of : goal.decreases-has_row_of
decreases-has_row_of l = length l.rows.now
