use Rattle.mgmt_objects.proofs.Common.{length}
use Rattle.mgmt_objects.proofs.threshold.+percent_after.Given as goal

abbrev pub decreases-percent_after : goal.decreases-percent_after
decreases-percent_after l = length l.digits.now
