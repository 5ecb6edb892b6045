-- The statements on distribution sets, in records.
use Rattle.desk_records.proofs.Common.{◌≡◌, ◌≤◌, ◌==◌, ◌||◌, ◌++◌, ℕ, ◌+◌, pos, List, [], ◌∷◌, take, length, Bool, not, false, Option, Some, None, option_map}
use Rattle.desk_records.proofs.Common.{Shows, refl, sym, ap₂, subst, ◌∙◌, arith, nat_eq, list_any, is_some, nat_tests, length-map, list_any-append}
use Rattle.desk_records.proofs.Common.{IsPermutation, IsPermutation-trans, length_permutation, Null, Int, Row, col, Insert, Values, Database, State, Writes}
use Rattle.desk_records.proofs.Common.{rows_from, ShowsFirst, simple, passes, shown_in, ordered_rows, cast_int, cast_null, on_content, held_seen, Bytes}
use Rattle.desk_records.proofs.Common.{SetLabel, same_bytes, item_numbered, modules_of_set, Records, is_named_by_set, IsLastRow, parts_of, Sets, SetModules}
use Rattle.desk_records.proofs.Common.{set_row, place_row, place_rows_from, is_same_set, names_of, module_rows, set_named, with_set, and_module, AddsSetModule}
use Rattle.desk_records.proofs.Common.{HoldsRecords, ledger_of, and-true}
use Rattle.desk_records.proofs.Comparisons.{words_equal, numbers_equal}
use Rattle.desk_records.proofs.HoldsAfter.{puts, puts_next, records_differ}
use Rattle.desk_records.proofs.LedgerLists.{last_is_more}
use Rattle.desk_records.proofs.MeaningWords.{at_key, greatest_number, in_order, no_limit, no_offset, selects}
use Rattle.desk_records.proofs.NumberedReads.{finds, lasts, gets, passes_number, some_pass, some_row}
use Rattle.desk_records.proofs.PartReads.{all_shown, reads_parts}
use Rattle.desk_records.proofs.Parts.{same_rows, no_parts}
use Rattle.desk_records.proofs.SetMeaning.{same_names, name_columns, set_terms, locked_query, set_module_terms}

abbrev modules : SetLabel → List ℕ
modules set = set.modules

abbrev told_place : ℕ → Row
told_place m = Int (pos m) ∷ []

its_modules : (found : Option SetLabel) → parts_of modules found ≡ modules_of_set found
its_modules found = grind arith

module _ (db : Database) (now : Records) (holds : HoldsRecords db now) (names : List (List ℕ)) where
  -- whether a set is there
  pub finds_set : (name version : Bytes) (row : Option Row) → ShowsFirst (selects (simple (holds.spot Sets).tree same_names (col 1 0 ∷ [])) names) db
      (names_of name version) row → is_some row ≡ list_any (is_same_set name version) now.sets
  finds_set name version = finds set_row (holds.spot Sets).tree db now.sets (holds.rows Sets) names same_names (col 1 0 ∷ []) (names_of name version)
      (is_same_set name version) (λ n set. rw (words_equal set.name name, words_equal set.version version, and-true (same_bytes set.version version)) refl)

  -- the last number
  pub lasts_set : (row : Option Row) → ShowsFirst (selects (greatest_number (holds.spot Sets).tree) names) db [] row → IsLastRow (length now.sets) row
  lasts_set = lasts set_row (holds.spot Sets).tree db now.sets (holds.rows Sets) names (λ n x. refl)

  -- a set's names by its number
  pub gets_set : (number : ℕ) → 1 ≤ number → (row : Option Row) → ShowsFirst (selects (simple (holds.spot Sets).tree (at_key 0 0 ∷ []) name_columns) names) db
      (Int (pos number) ∷ []) row → row ≡ option_map (λ (set : SetLabel). names_of set.name set.version) (item_numbered now.sets number)
  gets_set = gets set_row (holds.spot Sets).tree db now.sets (holds.rows Sets) names (λ n x. refl) (at_key 0 0 ∷ []) name_columns
      (passes_number set_row (λ n x. refl))

  -- its modules
  pub lists_set_modules : (number : ℕ) → 1 ≤ number → (rows : List Row)
      → Shows (selects (in_order 2 false (at_key 1 0 ∷ []) (col 1 3 ∷ []) no_limit no_offset (holds.spot SetModules).tree) names) db (Int (pos number) ∷ [])
      rows
      → rows ≡ module_rows (modules_of_set (item_numbered now.sets number))
  lists_set_modules number least rows shows =
      let test = at_key 1 0 ∷ [] in
      let params = Int (pos number) ∷ [] in
      let all = all_shown told_place told_place number test (col 1 3 ∷ []) params (λ place m. grind (arith, numbers_equal, nat_tests)) (λ place m. refl) 1 in
      reads_parts told_place modules (holds.spot SetModules).tree test (col 1 3 ∷ []) no_limit no_offset params false number least
      (λ id x. refl) (λ id x. refl) (λ n place m apart. and-true _ ∙ numbers_equal n number ∙ apart) db.trees now.sets (holds.rows SetModules) rows
      (shows.answer Null) ∙ grind (arith, its_modules, all)

  -- ---- whether a set names a module

  abbrev tree : ℕ
  tree = (holds.spot SetModules).tree

  abbrev is_at : ℕ → Row → Bool
  is_at m = on_content (passes (at_key 3 0 ∷ []) (Int (pos m) ∷ []))

  any_place : (m n place : ℕ) (ms : List ℕ) → list_any (is_at m) (rows_from (place_row n) place ms) ≡ list_any (λ k. nat_eq k m) ms
  any_place m n place [] = refl
  any_place m n place (k ∷ ms) = ap₂ ◌||◌ (and-true _ ∙ numbers_equal k m) (any_place m n (place + 1) ms)

  any_set : (m n : ℕ) (sets : List SetLabel) → list_any (is_at m) (place_rows_from n sets) ≡ is_named_by_set sets m
  any_set m n [] = refl
  any_set m n (set ∷ sets) = grind (arith, any_set m (n + 1) sets, list_any-append, any_place)

  first_left : {X : Type 0} (xs : List X) → not (length (take 1 xs) == 0) ≡ not (length xs == 0)
  first_left xs = grind (arith, nat_tests)

  searched : (m : ℕ) (rows : List Row) → Shows (selects (locked_query tree) names) db (Int (pos m) ∷ []) rows
      → not (length rows == 0) ≡ is_named_by_set now.sets m
  searched m rows shows =
      let params = Int (pos m) ∷ [] in
      let query = locked_query tree in
      let test = at_key 3 0 ∷ [] in
      let f = shown_in query params in
      let it = ordered_rows tree test (col 1 1 ∷ []) query.order query.limit query.offset params db.trees rows (shows.answer Null) in
      let seen = held_seen (passes test params) (λ id x. refl) f (λ id x. refl) (db.trees tree) (place_rows_from 1 now.sets) (holds.rows SetModules) in
      let same = length_permutation _ _ (IsPermutation-trans _ _ _ seen it.same) in
      grind (arith, it.is, first_left, length-map, same, some_pass (is_at m) (place_rows_from 1 now.sets), any_set m 1 now.sets)

  -- whether a set names a module
  pub finds_lock : (m : ℕ) (row : Option Row) → ShowsFirst (selects (locked_query tree) names) db (Int (pos m) ∷ []) row
      → is_some row ≡ is_named_by_set now.sets m
  finds_lock m None shows = searched m [] shows
  finds_lock m (Some row) shows = sym (some_row row shows.0) ∙ searched m (row ∷ shows.0) shows.1

pub adds_set : (name version : Bytes) (number : ℕ) (old new : State) (text : List ℕ) (count : ℕ) (now : Records) (holds : HoldsRecords old.now now) → number
    ≡ length now.sets + 1
    → (w : Writes old new None (Insert (holds.spot Sets).at (Values set_terms 4)) text (Int (pos number) ∷ names_of name version) count)
    → HoldsRecords new.now (with_set now name version)
adds_set name version number old new text count now holds next w =
    puts_next Sets (ledger_of now) (ledger_of (with_set now name version)) (grind (arith, records_differ, no_parts)) holds.sorted set_row
    (λ n x. refl) now.sets (set_named name version) number next set_terms 4 holds w (λ tree. refl) (λ db tree. rw (cast_int number, cast_null) refl) refl refl

pub adds_set_module : (number place m : ℕ) (old new : State) (text : List ℕ) (count : ℕ) (now next : Records) (holds : HoldsRecords old.now now)
    → AddsSetModule number place m now next
    → (w : Writes old new None (Insert (holds.spot SetModules).at (Values set_module_terms 4)) text (place_row number place m) count)
    → HoldsRecords new.now next
adds_set_module number place m old new text count now next holds change w =
    let after = record now { sets = change.before ++ and_module change.set m ∷ [] } in
    subst (HoldsRecords new.now) (sym change.next_is)
    (puts SetModules (ledger_of now) (ledger_of after) (grind (arith, records_differ, same_rows, change.last)) holds.sorted set_module_terms 4 holds w
    (λ tree. refl) _ _ (λ tree. refl) (λ tree. rw (cast_int number, cast_int place, cast_int m) refl) refl refl
    (subst (λ sets. IsPermutation (place_rows_from 1 after.sets) (place_row number place m ∷ place_rows_from 1 sets)) (sym change.last)
    (last_is_more place_row modules change.set (and_module change.set m) m refl number place change.before change.number_is change.place_is)))
