use Rattle.http_wire.proofs.Common.{◌≡◌, ◌≤◌, take, digits_value, limits}
use Rattle.http_wire.proofs.body_length.length_of.Given as goal

abbrev pub invariant-loop-b : goal.invariant-loop-b
invariant-loop-b l = record {
  value : l.length ≡ digits_value 10 (take l.b-index l.text);
  small : l.length ≤ limits.body_length;
}
