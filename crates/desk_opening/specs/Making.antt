-- The making of a desk's tables, and of a new desk in a database that uses none of its names.
use Rattle.std.specs.Prelude.{◌≡◌, ◌⊎◌, ℕ, Bool, true, false, List, [], map, Result, Ok, Err}
use Rattle.std.specs.List.{AllByRecursion}
use Rattle.sqlite_value.specs.Keys.{plain}
use Rattle.sqlite.specs.Tree.{Trees}
use Rattle.sqlite.specs.Effect.{Database, IsDatabase}
use Rattle.sqlite.specs.State.{State, HasCleanDisk}
use Rattle.sqlite_trees.specs.Tree.{IsAscending}
use Rattle.sqlite_schema.specs.Names.{same_name}
use Rattle.sqlite_schema.specs.declared.schema.Index.{Index}
use Rattle.sqlite_rules.specs.Lists.{Has}
use Rattle.sql_front.specs.Stands.{Stands}
use Rattle.sql_front.specs.Free.{LeavesFree}
use Rattle.sql_calls.specs.KeyIndexes.{ComparesBytes}
use Rattle.sql_calls.specs.Standing.{Advances, Wears, HoldIn, Rests}
use Rattle.rollout_machine.specs.CommandList.{Make}
use Rattle.rollout_machine.specs.Records.{Records, records}
use Rattle.desk_records.specs.Schema.{Place, Offers, offer_table, table_at, name_of, desk_names}
use Rattle.desk_records.specs.Holds.{HoldsLedger, HoldsRecords, Ledger, Spot}
use Rattle.desk_records.specs.Readable.{HoldsAt, HoldsPlace}
use Rattle.desk_records.specs.Targets.{are_sorted}
use Rattle.desk_records.specs.Versions.{IsTellable, places_at}
use Rattle.desk_records.specs.declared.version.Version.{Version}

-- what was there before
pub data Before : Type 0 where
  Nothing : Before
  -- the tables of a version, with these records
  Older : Version → Records → Before

-- how far the making has come
pub data Stage : Type 0 where
  -- no name of a desk is used
  Free : Stage
  -- the tables of a version hold these records, and the names of later ones are free
  At : Version → Records → Stage
  -- beside what was there before, the first tables are there, with no row, and the names of the others are free
  Partly : Before → List Place → List Place → Stage
  -- the tables hold this ledger
  Whole : Ledger → Stage

-- a table that stands, with no row, and with indexes in plain order alone
pub record IsEmptyTable (db : Database) (t : Place) : Type 0 where
  pub at : ℕ
  pub tree : ℕ
  pub stands : Stands db.schema (name_of t) at (table_at t tree)
  pub empty : db.trees tree ≡ []
  pub plainly : (index : Index) → Has db.schema.indexes index → index.table ≡ tree → index.order ≡ plain

-- the tables of a version hold the records, whatever other tables there are
pub record HoldsOlder (v : Version) (db : Database) (r : Records) : Type 0 where
  pub spot : Place → Spot
  pub tables : AllByRecursion (λ t. HoldsPlace v db r (spot t) t) (places_at v)
  pub tellable : IsTellable v r
  pub sorted : are_sorted r.targets ≡ true
  pub keyed : ComparesBytes db.schema (offer_table (spot Offers).tree) 1

abbrev pub HoldsBefore : Database → Before → Type 0
HoldsBefore db Nothing = Unit {0}
HoldsBefore db (Older v r) = HoldsOlder v db r

pub record HoldsPartly (db : Database) (before : Before) (made left : List Place) : Type 0 where
  pub sound : IsDatabase db
  pub kept : HoldsBefore db before
  pub stand : AllByRecursion (IsEmptyTable db) made
  pub free : LeavesFree db.schema (map name_of left)

abbrev pub HoldsStage : Database → Stage → Type 0
HoldsStage db Free = IsDatabase db × LeavesFree db.schema desk_names
HoldsStage db (At v r) = HoldsAt v db r
HoldsStage db (Partly before made left) = HoldsPartly db before made left
HoldsStage db (Whole l) = HoldsLedger db l

-- an open of a file with these trees finds no name of a desk
abbrev pub LeavesNoDesk : Trees → Type 0
LeavesNoDesk trees = HoldIn HoldsStage trees Free

-- an open of a file with these trees finds a desk with these records
abbrev pub LeavesDeskWith : Trees → Records → Type 0
LeavesDeskWith trees r = HoldIn HoldsRecords trees r

-- the records of a new desk
abbrev pub first_records : Bool → Records
first_records approval = records (Make approval)

abbrev pub MakesTo : {A E : Type 0} → State → State → Bool → Result A E → Type 0
MakesTo old new approval (Ok _) = Rests HoldsStage old Free → Rests HoldsRecords new (first_records approval)
MakesTo old new approval (Err e) = Rests HoldsStage old Free → HasCleanDisk new → (db : Trees) → new.may_leave db → LeavesNoDesk db
    ⊎ LeavesDeskWith db (first_records approval)

-- A new desk is there whole or not at all.
pub record Makes {A E : Type 0} (old new : State) (approval : Bool) (result : Result A E) : Type 0 where
  pub wears : Wears old new
  pub makes : MakesTo old new approval result

-- no two of the places have the same name
abbrev pub AreApart : List Place → Type 0
AreApart = IsAscending (λ t u. same_name (name_of t) (name_of u) ≡ false)

-- the fault alone, of a call that gives back with it what was left
abbrev pub told : {A E X : Type 0} → Result A (E × X) → Result A E
told (Ok a) = Ok a
told (Err e) = Err e.0

-- these tables, within a change
abbrev pub MakesTables : {A E : Type 0} → List Place → State → State → Result A E → Type 0
MakesTables ts old new result = (before : Before) → Advances HoldsStage (Partly before [] ts) (Partly before ts []) old new result
