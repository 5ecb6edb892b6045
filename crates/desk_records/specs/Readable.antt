-- When tables of a version that the program reads hold the records of a desk.
use Rattle.std.specs.Prelude.{◌≡◌, true, map}
use Rattle.std.specs.List.{AllByRecursion}
use Rattle.sqlite.specs.Effect.{Database, IsDatabase}
use Rattle.sql_front.specs.Free.{LeavesFree}
use Rattle.sql_front.specs.Stands.{Stands}
use Rattle.sql_calls.specs.KeyIndexes.{ComparesBytes}
use Rattle.rollout_machine.specs.Records.{Records}
use Rattle.desk_records.specs.Schema.{Place, Offers, offer_table, table_at, name_of}
use Rattle.desk_records.specs.Targets.{are_sorted}
use Rattle.desk_records.specs.Holds.{AreRowsOf, Spot, content_at, ledger_of}
use Rattle.desk_records.specs.Versions.{IsTellable, later_than, places_at}
use Rattle.desk_records.specs.declared.version.Version.{Version}

-- the table of a place stands there, and has the rows that the version has for these records
abbrev pub HoldsPlace : Version → Database → Records → Spot → Place → Type 0
HoldsPlace v db r spot t = Stands db.schema (name_of t) spot.at (table_at t spot.tree) × AreRowsOf (content_at v (ledger_of r) t) (db.trees spot.tree)

-- The tables of a version hold the records, and the names of later ones are free.
pub record HoldsAt (v : Version) (db : Database) (r : Records) : Type 0 where
  pub sound : IsDatabase db
  pub spot : Place → Spot
  pub tables : AllByRecursion (λ t. HoldsPlace v db r (spot t) t) (places_at v)
  pub free : LeavesFree db.schema (map name_of (later_than v))
  pub tellable : IsTellable v r
  pub sorted : are_sorted r.targets ≡ true
  pub keyed : ComparesBytes db.schema (offer_table (spot Offers).tree) 1

-- .. of whichever version the row of `desk` names
abbrev pub HoldsReadable : Database → Records → Type 0
HoldsReadable db r = (v : Version) × HoldsAt v db r
