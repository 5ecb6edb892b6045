use Rattle.http_wire.proofs.Common.{◌≡◌, length, map, take, field_view, limits}
use Rattle.httparse.specs.Spans.{header_bytes}
use Rattle.http_wire.proofs.message.fields_of.Given as goal

-- the fields so far
abbrev pub invariant-loop-i : goal.invariant-loop-i
invariant-loop-i l = record {
  size : length l.fields ≡ limits.fields;
  same : map field_view (take l.i l.fields) ≡ map (header_bytes l.region) (take l.i l.spans.fields);
}
