use Rattle.request_target.proofs.Common.{◌≡◌, take, true, list_all}
use Rattle.request_target.proofs.SegmentLemmas.{no_slash}
use Rattle.request_target.proofs.path_segments.slash_at.Given as goal

abbrev pub invariant-loop-at : goal.invariant-loop-at
invariant-loop-at l = list_all no_slash (take l.at l.path) ≡ true
