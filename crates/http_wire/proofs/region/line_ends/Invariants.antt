use Rattle.http_wire.proofs.Common.{◌≡◌, ◌+◌, ◌≤◌, ◌&&◌, length, list_all, line_ends, lf_follows_cr}
use Rattle.http_wire.proofs.LineLemmas.{follows, pairs_at}
use Rattle.http_wire.proofs.region.line_ends.Given as goal

-- the places that are left decide
abbrev pub invariant-loop-place : goal.invariant-loop-place
invariant-loop-place l = record {
  all : l.count + pairs_at l.bytes l.place-iterator ≡ line_ends l.bytes;
  few : l.count + length l.place-iterator ≤ length l.bytes;
  strict : (l.strict && list_all (follows l.bytes) l.place-iterator) ≡ lf_follows_cr 0 l.bytes;
  next : (goal.iterator-loop-place).can_next l.place-iterator;
  finite : (goal.iterator-loop-place).is_finite l.place-iterator;
}
