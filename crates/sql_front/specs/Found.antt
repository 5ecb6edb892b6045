-- A table that stands somewhere in a schema, in some tree.
use Rattle.std.specs.Prelude.{◌≡◌, ◌==◌, ℕ, Some}
use Rattle.std.specs.List.{find}
use Rattle.sqlite_schema.specs.declared.schema.Schema.{Schema}
use Rattle.sqlite_schema.specs.declared.schema.Table.{Table}
use Rattle.sql_front.specs.Stands.{Stands}

pub record StandsSomewhere (s : Schema) (table : Table) : Type 0 where
  pub at : ℕ
  pub tree : ℕ
  pub stands : Stands s table.name at (record table { tree = tree })

-- the first table in the tree of the one that is named is the other, but for its tree
abbrev pub HasFirst : Schema → Table → Table → Type 0
HasFirst s named table = (first : Table) × (find (λ t. t.tree == named.tree) s.tables ≡ Some first) × (first ≡ record table { tree = first.tree })
