use Rattle.target_filter.proofs.Common.{◌≡◌, take, true, list_all, is_byte_of}
use Rattle.target_filter.proofs.byte_kind.run_length.Given as goal

abbrev pub invariant-loop-at : goal.invariant-loop-at
invariant-loop-at l = list_all (is_byte_of l.kind) (take l.at l.text) ≡ true
