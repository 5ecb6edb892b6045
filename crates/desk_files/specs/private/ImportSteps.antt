-- How an import goes on by one record.
use Rattle.std.specs.Prelude.{◌≡◌, ℕ, Bool, true, false, List, [], ◌∷◌, ◌++◌, nat_eq, Option, Some, None, option_and_then, if◌then◌else◌}
use Rattle.std.specs.List.{list_any}
use Rattle.std.specs.Option.{MatchOption}
use Rattle.std.specs.Ordering.{nat_cmp}
use Rattle.std.specs.Cmp.Lexicographic.{pointwise, slice_cmp}
use Rattle.std.specs.BTreeSet.{contains}
use Rattle.rollout_model.specs.declared.target_row.TargetRow.{TargetRow}
use Rattle.desk_files.specs.Imports.{ids_of_rows}
use Rattle.desk_files.specs.TargetRecords.{Record, row_of}
use Rattle.desk_files.specs.declared.imported_rows.ImportedRows.{ImportedRows}

-- some row is of this id
abbrev pub has_id : List ℕ → List TargetRow → Bool
has_id id rows = list_any (λ v. pointwise nat_eq v id) (ids_of_rows rows)

abbrev pub if_new : List TargetRow → TargetRow → Option TargetRow
if_new rows row = if has_id row.id rows then None else Some row

-- the row of a record that follows these rows, where it is one of an id that none of them has
abbrev pub row_behind : List TargetRow → Record → Option TargetRow
row_behind rows r = option_and_then (if_new rows) (row_of r)

-- the set has the ids of the rows
abbrev pub HasIds : ImportedRows → Type 0
HasIds s = (id : List ℕ) → contains (slice_cmp nat_cmp) s.ids id ≡ has_id id s.rows

pub record Pushes (old new : ImportedRows) (row : TargetRow) : Type 0 where
  pub pushed : new.rows ≡ old.rows ++ row ∷ []
  pub ids : HasIds new

-- the record's row is added, or there is none
abbrev pub TakesRecord : ImportedRows → ImportedRows → Record → Bool → Type 0
TakesRecord old new r taken = MatchOption (row_behind old.rows r) (taken ≡ false) (λ row. (taken ≡ true) × Pushes old new row)
