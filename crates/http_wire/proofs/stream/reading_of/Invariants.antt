use Rattle.http_wire.proofs.Common.{◌≡◌, List, length, ◌+◌, ◌≤◌, WireMessage, Begins}
use Rattle.http_wire.proofs.stream.reading_of.Given as goal

abbrev pub invariant-loop-rest : goal.invariant-loop-rest
invariant-loop-rest l = record {
  so_far : (ms : List WireMessage) × Begins l.stream ms l.rest × (l.messages ≡ length ms);
  few : l.messages + length l.rest ≤ length l.stream;
}

abbrev pub decreases-loop-rest : goal.decreases-loop-rest
decreases-loop-rest l = length l.rest
