-- Where a table stands in a schema, whatever else the schema has.
use Rattle.std.specs.Prelude.{◌≡◌, ℕ, ◌^◌, nat_le, ◌==◌, false, List, [], Some, slice_get}
use Rattle.std.specs.List.{AllByRecursion, find}
use Rattle.sqlite_schema.specs.declared.schema.Schema.{Schema}
use Rattle.sqlite_schema.specs.declared.schema.Table.{Table}
use Rattle.sqlite_schema.specs.Names.{table_named}

-- no table that has its rows in this tree has a foreign key
abbrev pub NoneHasForeignKey : List Table → ℕ → Type 0
NoneHasForeignKey tables tree = AllByRecursion (λ t. t.tree ≡ tree → t.references ≡ []) tables

-- the table has the name, the place and a tree that no table before it has, and that no foreign key changes
pub record Stands (s : Schema) (name : List ℕ) (at : ℕ) (table : Table) : Type 0 where
  pub named : table_named s name ≡ Some at
  pub got : slice_get s.tables at ≡ Some table
  pub found : find (λ t. t.tree == table.tree) s.tables ≡ Some table
  pub keyless : NoneHasForeignKey s.tables table.tree
  pub stored : nat_le (2 ^ 31) table.tree ≡ false
