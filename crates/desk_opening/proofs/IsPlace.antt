-- What the text of a table has to be.
use Rattle.desk_opening.proofs.Common.{◌≡◌, refl, ℕ, false, Option, List, [], ◌++◌, codes, Ok, Err, Result, Order, text_of, same_name, table_defined_by, first}
use Rattle.desk_opening.proofs.Common.{IsBareTable, HaveNullDefaults, Place, table_at, name_of, create_text_of}
use Rattle.sqlite_schema.specs.declared.schema.Column.{Column}
use Rattle.sqlite_syntax.specs.declared.statement.Parsed.{Parsed}
use Rattle.sqlite_resolve.specs.declared.error.CompileError.{CompileError}
use Rattle.sql_front.proofs.Write.{Makes, with_create}
use Rattle.sql_calls.specs.Tables.{table_of}

abbrev pub text_at : Result Parsed CompileError → List ℕ → List ℕ
text_at (Ok p) sql = text_of sql (with_create p)
text_at (Err e) sql = []

-- a table of columns without a default is no more than its columns and keys
pub bare_of : {name : List ℕ} {tree : ℕ} {columns : List Column} {key : Option ℕ} {primary : List ℕ} {uniques : List (List ℕ)} {orders : List Order}
    → HaveNullDefaults columns → IsBareTable (table_of name tree columns key primary uniques orders)
bare_of defaults = record { checks = refl; references = refl; computed = refl; stamps = refl; uncounted = refl; defaults = defaults }

-- the text is a whole statement, which makes the table of the place, and nothing else bears its name
pub record IsPlace (t : Place) : Type 0 where
  pub makes : Makes (create_text_of t) (name_of t) (table_at t 0)
  pub whole : text_at (first (create_text_of t)) (create_text_of t) ≡ create_text_of t
  pub defined : table_defined_by (create_text_of t) ≡ Ok (table_at t 0)
  pub bare : IsBareTable (table_at t 0)
  pub unindexed : (rest : List ℕ) → same_name (codes "sqlite_autoindex_" ++ rest) (name_of t) ≡ false
  pub unsequenced : same_name (codes "sqlite_sequence") (name_of t) ≡ false
