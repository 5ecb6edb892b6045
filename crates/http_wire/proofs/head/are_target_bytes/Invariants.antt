use Rattle.http_wire.proofs.Common.{◌≡◌, ◌&&◌, drop, list_all, is_target_byte}
use Rattle.http_wire.proofs.head.are_target_bytes.Given as goal

-- the bytes that are left decide
abbrev pub invariant-loop-b : goal.invariant-loop-b
invariant-loop-b l = (l.all && list_all is_target_byte (drop l.b-index l.bytes)) ≡ list_all is_target_byte l.bytes
