use Rattle.desk_reads.proofs.Common.{◌≡◌}
use Rattle.desk_reads.specs.Targets.{listed_ids}
use Rattle.desk_reads.proofs.candidates.unnamed.Given as goal

-- the ids of those that are listed so far were gone through
abbrev pub invariant-loop-id : goal.invariant-loop-id
invariant-loop-id l = listed_ids l.listed.items ≡ l.yielded
