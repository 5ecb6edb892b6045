use Rattle.mgmt_objects.proofs.Common.{length}
use Rattle.mgmt_objects.proofs.target_body.+have_distinct_ids.Given as goal

abbrev pub decreases-have_distinct_ids : goal.decreases-have_distinct_ids
decreases-have_distinct_ids l = length l.rows.now
