-- A ledger that can be read has no history longer than its action says.
use Rattle.desk_store.proofs.Common.{◌≡◌, ◌≤◌, ◌^◌, ◌+◌, ℕ, pos, zero, suc, Bool, true, false, List, [], ◌∷◌, ◌++◌, length, slice_get, Option, Some, None, inl}
use Rattle.desk_store.proofs.Common.{inr, map, refl, sym, ap, arith, is_some, length-map, nat_tests, Int, Row, column, Has, item_numbered, Records}
use Rattle.desk_store.proofs.Common.{ActionRecord, history_of, has_size, has_word, first_broken, flag_in, number_in, outcome_in, ledger_of}
use Rattle.desk_store.proofs.Common.{broken_stored_action_column, columns_of_stored_action, Actions, Column, IsReadable}
use Rattle.std.proofs.Common.{nat_lt}
use Rattle.std.specs.List.{zip}
use Rattle.sql_calls.specs.Keyed.{rows_from}
use Rattle.rollout_machine.specs.Reports.{Reported}
use Rattle.desk_records.specs.Actions.{Tally, action_row, tally_of}
use Rattle.desk_records.specs.RowFaults.{BreaksRule}
use Rattle.desk_records.specs.declared.table_columns.Column.TheVariants.{ActionCanceling, ActionEntries, ActionNotes, ActionOutcome, ActionPlace, ActionRollout}
use Rattle.desk_records.specs.declared.table_columns.Column.TheVariants.{TargetId}

tallied_at : (as' : List ActionRecord) (i : ℕ) (a : ActionRecord) → slice_get as' i ≡ Some a → slice_get (zip as' (map tally_of as')) i ≡ Some (a, tally_of a)
tallied_at [] i a is = absurd cc
tallied_at (b ∷ as') zero a is = let same : b ≡ a = cc in ap (λ (c : ActionRecord). Some (c, tally_of c)) same
tallied_at (b ∷ as') (suc i) a is = tallied_at as' i a is

row_there : {X : Type 0} (f : ℕ → X → Row) (n : ℕ) (xs : List X) (i : ℕ) (x : X) → slice_get xs i ≡ Some x → (m : ℕ) × Has (rows_from f n xs) (f m x)
row_there f n [] i x is = absurd cc
row_there f n (y ∷ xs) zero x is = let same : y ≡ x = cc in (n, inl (ap (f n) (sym same)))
row_there f n (y ∷ xs) (suc i) x is = let it = row_there f (n + 1) xs i x is in (it.0, inr it.1)

-- the last of these columns breaks its rule, if none before it does
breaks_last : (tests : List (Bool × Column)) (c : Column) (kept : Bool) → kept ≡ false → BreaksRule (first_broken (tests ++ (kept, c) ∷ []))
breaks_last [] c kept broken = record { first = c; is = rw broken refl }
breaks_last ((true, d) ∷ more) c kept broken = breaks_last more c kept broken
breaks_last ((false, d) ∷ more) c kept broken = record { first = d; is = refl }

unread_entries : (row : Row) → has_size (column row 6) ≡ false → BreaksRule (broken_stored_action_column row)
unread_entries row unread =
    breaks_last ((is_some (number_in (column row 0)), ActionRollout) ∷ (has_size (column row 1), ActionPlace) ∷ (has_word (column row 2), TargetId)
    ∷ (is_some (flag_in (column row 3)), ActionCanceling)
    ∷ (is_some (outcome_in (column row 4)), ActionOutcome) ∷ (has_size (column row 5), ActionNotes) ∷ []) ActionEntries (has_size (column row 6)) unread

no_size : (n : ℕ) → 2 ^ 32 ≤ n → has_size (Int (pos n)) ≡ false
no_size n large = let test : nat_lt n (2 ^ 32) ≡ false = grind (arith, nat_tests, large) in rw test refl

-- the row of an action keeps how long its history is
pub history_few : (r : Records) → IsReadable (ledger_of r) → (k : ℕ) → 2 ^ 32 ≤ length (history_of (item_numbered r.actions k)) → ⊥
history_few r readable zero large = omega (arith, large)
history_few r readable (suc i) large = go (slice_get r.actions i) refl large
  where
    its : List (ActionRecord × Tally)
    its = zip r.actions (map tally_of r.actions)

    go : (o : Option ActionRecord) → slice_get r.actions i ≡ o → 2 ^ 32 ≤ length (history_of o) → ⊥
    go None there large = omega (arith, large)
    go (Some a) there large =
        let row = row_there (action_row r.rollouts) 1 its i (a, tally_of a) (tallied_at r.actions i a there) in
        let wide : 2 ^ 32 ≤ length a.history = omega (arith, large, length-map a.history (λ (it : Reported). it.entry)) in
        let unread : has_size (Int (pos (length a.history))) ≡ false = no_size (length a.history) wide in
        readable.keep Actions (rows_from (action_row r.rollouts) 1 its) refl (action_row r.rollouts row.0 (a, tally_of a)) row.1
        (inr (inl (unread_entries (columns_of_stored_action (action_row r.rollouts row.0 (a, tally_of a))) unread)))
