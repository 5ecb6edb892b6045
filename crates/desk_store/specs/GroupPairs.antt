-- The group that has a place, and the one behind it.
use Rattle.std.specs.Prelude.{ℕ, List, slice_get}
use Rattle.rollout_machine.specs.declared.records.GroupRecord.{GroupRecord}
use Rattle.desk_records.specs.Rollouts.{that_reach}
use Rattle.desk_store.specs.declared.groups.GroupAndNext.{GroupAndNext}

-- the first two of these groups that reach it
abbrev pub group_and_next : ℕ → List GroupRecord → GroupAndNext
group_and_next place gs = record { group = slice_get (that_reach place gs) 0; next = slice_get (that_reach place gs) 1 }
