-- The indexes of a key of one column.
use Rattle.std.specs.Prelude.{◌≡◌, ℕ, true, [], ◌∷◌}
use Rattle.sqlite_value.specs.declared.keys.Collation.TheVariants.{Binary}
use Rattle.sqlite_value.specs.Keys.{first_key}
use Rattle.sqlite.specs.Schema.{Schema}
use Rattle.sqlite.specs.Table.{Table}
use Rattle.sqlite_schema.specs.declared.schema.Index.{Index}
use Rattle.sqlite_schema.specs.Rules.{guards}
use Rattle.sqlite_rules.specs.Lists.{Has}

-- each unique index of the table that stands on this column alone compares bytes
abbrev pub ComparesBytes : Schema → Table → ℕ → Type 0
ComparesBytes schema table c = (index : Index) → Has schema.indexes index → guards index table ≡ true → index.columns ≡ c ∷ []
    → (first_key index.order).collation ≡ Binary
