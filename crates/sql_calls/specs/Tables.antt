-- How a schema's tables and indexes are written out.
use Rattle.sqlite.specs.Collation.TheVariants.{Binary}
use Rattle.std.specs.Prelude.{Bool, Option, true, false, [], List, ℕ}
use Rattle.sqlite_value.specs.declared.value.Value.TheVariants.{Null}
use Rattle.sqlite_value.specs.declared.keys.Order.{Order}
use Rattle.sqlite_schema.specs.declared.schema.Column.{Column}
use Rattle.sqlite.specs.Table.{Table}
use Rattle.sqlite.specs.Kind.{Kind}

-- a column of a STRICT table
abbrev pub strict : List ℕ → Kind → Bool → Column
strict name kind not_null = record { name = name; kind = kind; is_strict = true; not_null = not_null; default = Null; collation = Binary }

-- key: the column that is the INTEGER PRIMARY KEY; uniques: the places of a text or composite PRIMARY KEY and of each UNIQUE
abbrev pub table_of : List ℕ → ℕ → List Column → Option ℕ → List ℕ → List (List ℕ) → List Order → Table
table_of name tree columns key primary uniques orders = record {
  name = name;
  tree = tree;
  columns = columns;
  key = key;
  primary = primary;
  uniques = uniques;
  orders = orders;
  checks = [];
  references = [];
  computed = [];
  stamps = record { places = []; terms = []; formats = [] };
  is_counted = false;
}
