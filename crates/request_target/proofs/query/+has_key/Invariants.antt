use Rattle.request_target.proofs.Common.{length}
use Rattle.request_target.proofs.query.+has_key.Given as goal

abbrev pub decreases-has_key : goal.decreases-has_key
decreases-has_key l = length l.pairs.now
