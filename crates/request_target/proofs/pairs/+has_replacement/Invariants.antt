use Rattle.request_target.proofs.Common.{length}
use Rattle.request_target.proofs.pairs.+has_replacement.Given as goal

abbrev pub decreases-has_replacement : goal.decreases-has_replacement
decreases-has_replacement l = length l.text.now
