use Rattle.target_filter.proofs.GreedyMatching.{matches_joins, joins_matches}
use Rattle.target_filter.proofs.laws.pieces_in_order.Goals as goal

pub returns : goal.returns
returns c = λ pattern text. (λ h. matches_joins pattern text h, λ h. joins_matches pattern text h)
