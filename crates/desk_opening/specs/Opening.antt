-- The taking over of a desk that is there.
use Rattle.std.specs.Prelude.{◌≡◌, ◌<ℤ◌, ℤ, Bool, true, [], ◌∷◌, false, pos, codes, map, Option, Result, Ok, Err, IfOk, IsTrue, ◌⊎◌}
use Rattle.std.specs.List.{AllByRecursion}
use Rattle.sqlite_value.specs.declared.value.Value.TheVariants.{Int, Text}
use Rattle.sqlite_value.specs.Order.{Row, column}
use Rattle.sqlite.specs.Tree.{Trees}
use Rattle.sqlite.specs.Schema.{Schema}
use Rattle.sqlite.specs.Effect.{Database}
use Rattle.sqlite.specs.State.{State, HasCleanDisk}
use Rattle.sqlite_trees.specs.Tree.{has_rowid}
use Rattle.sqlite_rules.specs.Lists.{Has}
use Rattle.sql_front.specs.Free.{LeavesFree}
use Rattle.sql_front.specs.Found.{StandsSomewhere}
use Rattle.sql_calls.specs.Calls.{TakesFirst}
use Rattle.sql_calls.specs.Standing.{Wears, HoldIn, Rests}
use Rattle.sql_calls.specs.declared.fault.Fault.{Fault}
use Rattle.rollout_machine.specs.Records.{Records}
use Rattle.desk_records.specs.Schema.{table_at, desk_table, name_of, desk_names}
use Rattle.desk_records.specs.Versions.{later_than, newest, version_number, places_at}
use Rattle.desk_records.specs.declared.texts.TheConstants.{GET_DESK}
use Rattle.desk_records.specs.declared.version.Version.{Version}
use Rattle.desk_opening.specs.declared.opening.OpenFault.{OpenFault}
use Rattle.desk_opening.specs.declared.opening.OpenFault.TheVariants.{NotDesk, NewerVersion, Memory, Store}
use Rattle.desk_opening.specs.Making.{MakesTo}
use Rattle.desk_opening.specs.Migrating.{HoldsOf, MovesTo}

-- each table of the version is there as the desk makes it, and the names of later ones are free
pub record HasDeskTables (v : Version) (schema : Schema) : Type 0 where
  pub stands : AllByRecursion (λ t. StandsSomewhere schema (table_at t 0)) (places_at v)
  pub free : LeavesFree schema (map name_of (later_than v))

-- ---- the row of `desk`, as format, version and approval

-- a row of format `fwdesk` and of this version
pub record IsDeskRow (v : Version) (row : Row) : Type 0 where
  pub format : column row 0 ≡ Text (codes "fwdesk")
  pub version : column row 1 ≡ Int (pos (version_number v))

-- .. and of a version that the program reads
abbrev pub IsReadableRow : Row → Type 0
IsReadableRow row = (v : Version) × IsDeskRow v row

-- a row of format `fwdesk` and of a version later than the newest
pub record IsNewerRow (row : Row) : Type 0 where
  pub format : column row 0 ≡ Text (codes "fwdesk")
  pub number : ℤ
  pub version : column row 1 ≡ Int number
  pub later : pos (version_number newest) <ℤ number

-- a row of another format, or of a version below 1
abbrev pub IsOtherRow : Row → Type 0
IsOtherRow row = (¬ IsReadableRow row) × (¬ IsNewerRow row)

-- The table `desk` stands, and its row of number 1 says this.
pub record HasRow (db : Database) (Says : Row → Type 0) : Type 0 where
  pub table : StandsSomewhere db.schema (desk_table 0)
  pub row : Row
  pub among : Has (db.trees table.tree) row
  pub number : has_rowid (pos 1) row ≡ true
  pub says : Says (column row 2 ∷ column row 3 ∷ column row 4 ∷ [])

-- The table `desk` stands, and has no row of number 1.
pub record HasNoRow (db : Database) : Type 0 where
  pub table : StandsSomewhere db.schema (desk_table 0)
  pub none : AllByRecursion (λ row. has_rowid (pos 1) row ≡ false) (db.trees table.tree)

-- What each answer tells of the row: that it is a desk's, where it is taken over, a later version's, where it is refused as that, and
-- another, where it is refused as no desk, unless no row was there to judge.
abbrev pub TellsOfRow : {A : Type 0} → (A → Type 0) → ((Row → Type 0) → Type 0) → Type 0 → Result A OpenFault → Type 0
TellsOfRow Found Says Lacks (Ok a) = Found a
TellsOfRow Found Says Lacks (Err NotDesk) = Says IsOtherRow ⊎ Lacks
TellsOfRow Found Says Lacks (Err NewerVersion) = Says IsNewerRow
TellsOfRow Found Says Lacks (Err Memory) = Unit {0}
TellsOfRow Found Says Lacks (Err Store) = Unit {0}

-- .. of the row that is read, and of the schema: the row is of this version, and its tables are there
pub record IsWholeAt (row : Row) (schema : Schema) (v : Version) : Type 0 where
  pub row_is : IsDeskRow v row
  pub tables : HasDeskTables v schema

-- the row is of a version that the program reads, whose tables are not there
pub record LacksAt (row : Row) (schema : Schema) : Type 0 where
  pub version : Version
  pub row_is : IsDeskRow version row
  pub lacks : ¬ HasDeskTables version schema

-- a database with a desk of a version that the program reads
pub record HasDesk (db : Database) : Type 0 where
  pub version : Version
  pub tables : HasDeskTables version db.schema
  pub row : HasRow db (IsDeskRow version)

-- the row is of a version that the program reads, and its tables are not there as the desk makes them, or a later one's name is used
pub record LacksTables (db : Database) : Type 0 where
  pub version : Version
  pub row : HasRow db (IsDeskRow version)
  pub lacks : ¬ HasDeskTables version db.schema

-- The table `desk` is not there as the desk makes it, or has no row of number 1, or the tables of its version are not there. A version
-- later than the newest may have others, so none are asked for where the row names one.
abbrev pub LacksPartOfDesk : Database → Type 0
LacksPartOfDesk db = (¬ StandsSomewhere db.schema (desk_table 0)) ⊎ HasNoRow db ⊎ LacksTables db

-- the fault is not of what the database holds
abbrev pub IsFailure : OpenFault → Type 0
IsFailure NotDesk = ⊥
IsFailure NewerVersion = ⊥
IsFailure Memory = Unit {0}
IsFailure Store = Unit {0}

-- ---- reading

-- the row of `desk` was asked for
pub record TakesDeskRow (old new : State) : Type 0 where
  pub took : Result (Option Row) Fault
  pub takes : TakesFirst old new GET_DESK.now [] took

-- a desk of this version
pub record HasDeskAt (db : Database) (v : Version) : Type 0 where
  pub tables : HasDeskTables v db.schema
  pub row : HasRow db (IsDeskRow v)

-- where the table `desk` stands, what is told of the version
abbrev pub TellsVersion : Database → Result Version OpenFault → Type 0
TellsVersion db result = StandsSomewhere db.schema (desk_table 0) → TellsOfRow (HasDeskAt db) (HasRow db) (HasNoRow db ⊎ LacksTables db) result

abbrev pub KeepsTo : {A E : Type 0} → (Database → Records → Type 0) → State → State → Result A E → Type 0
KeepsTo Holds old new (Ok _) = (r : Records) → Rests Holds old r → Rests Holds new r
KeepsTo Holds old new (Err e) = (r : Records) → Rests Holds old r → HasCleanDisk new → (db : Trees) → new.may_leave db → HoldIn Holds db r

-- Records that stood, stand, and in the same version; at an error every crash still leaves them. Ok comes of an open connection alone.
pub record Keeps {A E : Type 0} (old new : State) (result : Result A E) : Type 0 where
  pub wears : Wears old new
  pub keeps : (o : Option Version) → KeepsTo (HoldsOf o) old new result
  pub opened : IfOk result (λ a. HasCleanDisk new → IsTrue old.is_open)

-- ---- taking over

-- Records that stood in the tables of any version that the program reads stand in those of the newest, and at an error every crash still
-- leaves them: in the version that they stood in, or in the newest. The answer is by the database as it was.
pub record Adopts {A : Type 0} (old new : State) (result : Result A OpenFault) : Type 0 where
  pub wears : Wears old new
  pub takes : (o : Option Version) → MovesTo o old new result
  pub tells : HasCleanDisk new → TellsOfRow (λ _. HasDesk old.now) (HasRow old.now) (LacksPartOfDesk old.now) result

-- A name of a desk is used, and by no desk: a table or the row is another's, or is not there.
pub record HasNoDesk (db : Database) : Type 0 where
  pub used : ¬ LeavesFree db.schema desk_names
  pub other : HasRow db IsOtherRow ⊎ LacksPartOfDesk db

-- ---- the one or the other

-- the connection is open, as one that has just been made over files is
abbrev pub IsKnownOpen : State → Type 0
IsKnownOpen s = HasCleanDisk s → IsTrue s.is_open

-- What is opened is a desk, or uses no name of one. What is refused as no desk is none, and what is refused as a later one says so.
abbrev pub FindsFault : Database → OpenFault → Type 0
FindsFault db NotDesk = HasNoDesk db
FindsFault db NewerVersion = HasRow db IsNewerRow
FindsFault db Memory = Unit {0}
FindsFault db Store = Unit {0}

abbrev pub FindsTo : {A : Type 0} → Database → Result A OpenFault → Type 0
FindsTo db (Ok _) = HasDesk db ⊎ LeavesFree db.schema desk_names
FindsTo db (Err e) = FindsFault db e

-- A desk that is there is taken over. Where no name of a desk is used, a new one is there whole or not at all.
pub record OpensDesk {A : Type 0} (old new : State) (approval : Bool) (result : Result A OpenFault) : Type 0 where
  pub wears : Wears old new
  pub finds : HasCleanDisk new → FindsTo old.now result
  pub takes : IsKnownOpen old → (o : Option Version) → MovesTo o old new result
  pub makes : IsKnownOpen old → MakesTo old new approval result

-- A law of each store: while it is open, a crash leaves the last commit.
abbrev pub IsSettled : State → Type 0
IsSettled s = (db : Trees) → IsTrue s.is_open → s.may_leave db → db ≡ s.committed.trees
