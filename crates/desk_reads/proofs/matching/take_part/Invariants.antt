use Rattle.desk_reads.proofs.Common.{◌≡◌, drop, take}
use Rattle.desk_reads.proofs.matching.take_part.Given as goal

-- so many are taken off the front
abbrev pub invariant-loop : goal.invariant-loop
invariant-loop l = (l.part.items ≡ take l.counter l.fn.left.items) × (l.left.items ≡ drop l.counter l.fn.left.items)
