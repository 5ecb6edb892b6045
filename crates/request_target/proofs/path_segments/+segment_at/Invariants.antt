use Rattle.request_target.proofs.Common.{length}
use Rattle.request_target.proofs.path_segments.+segment_at.Given as goal

abbrev pub decreases-segment_at : goal.decreases-segment_at
decreases-segment_at l = length l.path.now
