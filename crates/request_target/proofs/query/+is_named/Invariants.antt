use Rattle.request_target.proofs.Common.{length}
use Rattle.request_target.proofs.query.+is_named.Given as goal

abbrev pub decreases-is_named : goal.decreases-is_named
decreases-is_named l = length l.keys.now
