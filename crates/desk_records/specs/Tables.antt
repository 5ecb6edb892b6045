-- The tables of a desk with whatever rows they have.
use Rattle.std.specs.Prelude.{◌≡◌, List}
use Rattle.sqlite_value.specs.Order.{Row}
use Rattle.sqlite.specs.Effect.{Database, IsDatabase}
use Rattle.sql_front.specs.Stands.{Stands}
use Rattle.desk_records.specs.Holds.{Spot}
use Rattle.desk_records.specs.Schema.{Place, name_of, table_at}

-- the rows of each table as they lie in its tree, with the rowid first
abbrev pub Tables : Type 0
Tables = Place → List Row

-- The tables of the schema stand somewhere among those of others, and have these rows.
pub record HoldsTables (db : Database) (t : Tables) : Type 0 where
  pub sound : IsDatabase db
  pub spot : Place → Spot
  pub stands : (p : Place) → Stands db.schema (name_of p) (spot p).at (table_at p (spot p).tree)
  pub rows : (p : Place) → t p ≡ db.trees (spot p).tree
