use Rattle.target_filter.proofs.Common.{◌≡◌, take, true, list_all}
use Rattle.target_filter.proofs.GreedyMatching.{no_star}
use Rattle.target_filter.proofs.pattern.star_at.Given as goal

abbrev pub invariant-loop-at : goal.invariant-loop-at
invariant-loop-at l = list_all no_star (take l.at l.pattern) ≡ true
