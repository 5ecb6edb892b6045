-- A desk as its contracts see it.
use Rattle.std.specs.Prelude.{◌≡◌, Bool, Option, Some, None, Vec, ⊤}
use Rattle.std.specs.declared.alloc.Global.{Global}
use Rattle.sqlite.specs.Tree.{Trees}
use Rattle.sqlite.specs.Effect.{Database}
use Rattle.sqlite.specs.State.{State, HasCleanDisk}
use Rattle.sql_calls.specs.Standing.{HoldIn, IsAtRest}
use Rattle.desk_records.specs.Readable.{HoldsReadable}
use Rattle.desk_records.specs.Targets.{ids_of}
use Rattle.rollout_machine.specs.CommandList.{CommandList}
use Rattle.rollout_machine.specs.Commands.{Bytes}
use Rattle.rollout_machine.specs.Records.{Records, records}
use Rattle.rollout_machine.specs.Standing.{DeskState}
use Rattle.rollout_machine.specs.Validity.{IsValid}

-- an open of a file with these trees finds the records of the list, whose commands were accepted one after the other, in the tables of a
-- version that the program reads
abbrev pub HoldsList : Trees → CommandList → Type 0
HoldsList trees h = IsValid h × HoldIn HoldsReadable trees (records h)

-- what a desk knows beside its tables: the ids of all targets, or nothing
abbrev pub Known : Type 0
Known = Option (Vec Bytes Global)

-- the ids that are known are those of the targets of these records
abbrev pub AreIdsOf : Known → Records → Type 0
AreIdsOf None r = ⊤
AreIdsOf (Some ids) r = ids.items ≡ ids_of r.targets

module _ (Shows : Database → Records → Type 0) where
  -- a desk over a connection of this state, which shows records by this relation
  abbrev pub desk_state_at : Bool → State → DeskState Trees
  desk_state_at is_stopped s = record {
    is_stopped = is_stopped;
    is_clean = HasCleanDisk s;
    shows = λ h. IsAtRest Shows s (records h);
    may_leave = s.may_leave;
    holds = HoldsList;
  }

  -- the same of a desk that knows the ids of all targets, or doesn't
  abbrev pub desk_state_knowing : Known → Bool → State → DeskState Trees
  desk_state_knowing known is_stopped s = record (desk_state_at is_stopped s) { shows = λ h. IsAtRest Shows s (records h) × AreIdsOf known (records h) }
