-- The calls on targets.
use Rattle.desk_store.proofs.Common.{◌≡◌, ◌<◌, ◌^◌, ℕ, min, pos, List, [], ◌∷◌, length, map, Option, Some, Ok, Result, IfOk, refl, ap, arith, Int, Row, column}
use Rattle.desk_store.proofs.Common.{State, Fault, TakesFirst, Finds, COUNT_TARGETS, HoldsLedger, ledger_of, listed_target, IsCount, count_targets_is}
use Rattle.desk_store.proofs.Common.{counted_at, Target}
use Rattle.std.specs.Prelude.{Bool, true, false}
use Rattle.desk_records.specs.Columns.{has_word}
use Rattle.desk_records.specs.ReadRows.{broken_listed_target_column, broken_owned_tag_column, columns_of_listed_target, columns_of_owned_tag}
use Rattle.desk_records.proofs.WrittenRows.{shown_listed_target}
use Rattle.desk_records.specs.RowFaults.{BreaksRule}
use Rattle.desk_records.specs.declared.table_columns.Column.TheVariants as rule
use Rattle.desk_records.proofs.TargetRecords.{listed_row, counts_targets}
use Rattle.desk_store.proofs.ReadLemmas.{first_tells}
use Rattle.desk_store.proofs.Known.{in_ledgers, tables_know}

-- ---- how many there are

-- a number of 32 bits is below what SQLite counts to
pub same_count : (count size : ℕ) (row : Option Row) → IsCount count row → count < 2 ^ 32 → row ≡ Some (Int (pos (min size 9223372036854775807)) ∷ [])
    → count ≡ size
same_count count size row h small is = grind (arith, min, column)

pub count_read : {old new : State} {row : Option Row} → TakesFirst old new COUNT_TARGETS.now [] (Ok row) → (out : Result ℕ Fault)
    → IfOk out (λ n. IsCount n row × (n < 2 ^ 32))
    → Finds HoldsLedger ledger_of old new out (λ r count. count ≡ length r.targets)
count_read {row = row} = first_tells (in_ledgers (tables_know (counted_at count_targets_is))) (λ db l holds at given. tt)
    (λ db now holds shown n is. same_count n (length now.targets) row is.0 is.1 (counts_targets db now holds [] row shown))

-- ---- as they are listed

pub rows_listed : (ts : List Target) → map listed_row ts ≡ map shown_listed_target (map listed_target ts)
rows_listed [] = refl
rows_listed (t ∷ ts) = ap (λ l. listed_row t ∷ l) (rows_listed ts)

-- a row whose id breaks its rule breaks one
pub id_breaks : (row : Row) → has_word (column row 1) ≡ false → BreaksRule (broken_listed_target_column (columns_of_listed_target row))
id_breaks row is = record { first = rule.TargetId; is = rw is refl }

-- ---- tags

-- a row whose tag breaks its rule breaks one
pub tag_breaks : (row : Row) → has_word (column row 2) ≡ false → BreaksRule (broken_owned_tag_column (columns_of_owned_tag row))
tag_breaks row is = go (has_word (column row 1)) refl
  where
    go : (b : Bool) → has_word (column row 1) ≡ b → BreaksRule (broken_owned_tag_column (columns_of_owned_tag row))
    go true e = record { first = rule.TargetTag; is = rw (e, is) refl }
    go false e = record { first = rule.TargetId; is = rw e refl }
