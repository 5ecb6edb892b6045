-- Names that a schema leaves free.
use Rattle.std.specs.Prelude.{◌≡◌, false, List, ℕ}
use Rattle.std.specs.List.{AllByRecursion}
use Rattle.sqlite_schema.specs.declared.schema.Schema.{Schema}
use Rattle.sqlite_catalog.specs.Change.{is_used}

-- no table, index or view has one of the names, whatever the case of ASCII letters
abbrev pub LeavesFree : Schema → List (List ℕ) → Type 0
LeavesFree schema = AllByRecursion (λ name. is_used schema name ≡ false)
