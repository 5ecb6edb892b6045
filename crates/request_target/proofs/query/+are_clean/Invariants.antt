use Rattle.request_target.proofs.Common.{length}
use Rattle.request_target.proofs.query.+are_clean.Given as goal

abbrev pub decreases-are_clean : goal.decreases-are_clean
decreases-are_clean l = length l.pairs.now
