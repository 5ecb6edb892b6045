use Rattle.target_filter.proofs.Common.{◌≡◌, length, after}
use Rattle.target_filter.proofs.pattern.after.Given as goal

abbrev pub invariant-loop-rest : goal.invariant-loop-rest
invariant-loop-rest l = after l.piece l.rest ≡ after l.piece l.text

abbrev pub decreases-loop-rest : goal.decreases-loop-rest
decreases-loop-rest l = length l.rest
