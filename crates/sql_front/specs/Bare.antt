-- Tables that have names, columns and keys, and nothing else.
use Rattle.std.specs.Prelude.{◌≡◌, false, [], List}
use Rattle.std.specs.List.{AllByRecursion}
use Rattle.sqlite_value.specs.declared.value.Value.TheVariants.{Null}
use Rattle.sqlite_schema.specs.declared.schema.Column.{Column}
use Rattle.sqlite_schema.specs.declared.schema.Table.{Table}

abbrev pub HaveNullDefaults : List Column → Type 0
HaveNullDefaults = AllByRecursion (λ column. column.default ≡ Null)

-- no CHECK, no foreign key, no default but NULL, and no AUTOINCREMENT
pub record IsBareTable (table : Table) : Type 0 where
  pub checks : table.checks ≡ []
  pub references : table.references ≡ []
  pub computed : table.computed ≡ []
  pub stamps : table.stamps ≡ record { places = []; terms = []; formats = [] }
  pub uncounted : table.is_counted ≡ false
  pub defaults : HaveNullDefaults table.columns
