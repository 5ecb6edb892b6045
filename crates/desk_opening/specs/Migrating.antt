-- The tables of a version become those of the newest.
use Rattle.std.specs.Prelude.{◌⊎◌, Option, Some, None, Result, Ok, Err}
use Rattle.sqlite.specs.Tree.{Trees}
use Rattle.sqlite.specs.Effect.{Database}
use Rattle.sqlite.specs.State.{State, HasCleanDisk}
use Rattle.sql_calls.specs.Standing.{HoldIn, Rests, Wears}
use Rattle.rollout_machine.specs.Records.{Records}
use Rattle.desk_records.specs.Holds.{HoldsRecords}
use Rattle.desk_records.specs.Readable.{HoldsAt, HoldsReadable}
use Rattle.desk_records.specs.declared.version.Version.{Version}

-- the tables of this version hold the records, or, where none is named, those of any that the program reads
abbrev pub HoldsOf : Option Version → Database → Records → Type 0
HoldsOf None = HoldsReadable
HoldsOf (Some v) = HoldsAt v

-- in the tables of the version, or in those of the newest
abbrev pub HoldsFrom : Version → Database → Records → Type 0
HoldsFrom v db r = HoldsAt v db r ⊎ HoldsRecords db r

-- .. or of whichever
abbrev pub LeftOf : Option Version → Database → Records → Type 0
LeftOf o db r = HoldsOf o db r ⊎ HoldsRecords db r

abbrev pub MovesTo : {A E : Type 0} → Option Version → State → State → Result A E → Type 0
MovesTo o old new (Ok _) = (r : Records) → Rests (HoldsOf o) old r → Rests HoldsRecords new r
MovesTo o old new (Err e) = (r : Records) → Rests (HoldsOf o) old r → HasCleanDisk new → (db : Trees) → new.may_leave db → HoldIn (LeftOf o) db r

-- Records that stood in the tables of the version stand in those of the newest. At an error every crash leaves them in the one or the other,
-- and in none between.
pub record Migrates {A E : Type 0} (v : Version) (old new : State) (result : Result A E) : Type 0 where
  pub wears : Wears old new
  pub migrates : MovesTo (Some v) old new result
