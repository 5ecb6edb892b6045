use Rattle.target_filter.proofs.Common.{◌≡◌, ◌≤◌, take, Some, run, start, state_of}
use Rattle.target_filter.proofs.scanner.scan.Given as goal

abbrev pub invariant-loop-at : goal.invariant-loop-at
invariant-loop-at l = record { went : run start (take l.at l.text) ≡ Some (state_of l.state); depth : l.state.depth ≤ l.at }
