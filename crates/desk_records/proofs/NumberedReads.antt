-- What the usual reads of a table show whose k-th row has number k: one that passes a test, the last number, one by its number.
use Rattle.desk_records.proofs.Common.{◌≡◌, ◌≤◌, ◌==◌, ◌||◌, ℕ, zero, suc, ◌+◌, pos, List, [], ◌∷◌, map, filter, length, slice_get, Bool, true, not, Option}
use Rattle.desk_records.proofs.Common.{Shows, Some, None, option_map, refl, sym, ap, ap₂, ◌∙◌, arith, IsPermutation, list_any, is_some, option_to_list}
use Rattle.desk_records.proofs.Common.{nat_tests, length-map, length_permutation, Null, Int, Row, column, rowid, Term, Command, Database, one_permutation}
use Rattle.desk_records.proofs.Common.{none_counted, rows_from, ShowsFirst, simple, passes, shown_of, simple_rows, has_number, filter_numbered, at_number}
use Rattle.desk_records.proofs.Common.{row_of, last_query, last_number, last_of, item_numbered, is_eq, is_true, IsLastRow, and-true, not-not}
use Rattle.sqlite_sql.specs.Ops.{binary}
use Rattle.desk_records.proofs.Comparisons.{judged}
use Rattle.desk_records.proofs.MeaningWords.{at_key, selects}

-- ---- whether a row passes

pub some_pass : {X : Type 0} (p : X → Bool) (xs : List X) → not (length (filter p xs) == 0) ≡ list_any p xs
some_pass p xs = ap not (none_counted p xs) ∙ not-not (list_any p xs)

pub some_row : (row : Row) (tail : List Row) → not (length (row ∷ tail) == 0) ≡ true
some_row row tail = grind (arith, nat_tests)

-- ---- a query that shows at most one row

module _ {X : Type 0} (g : Row → Row) (f : X → Row) where
  none_found : (found : Option X) → IsPermutation (map g (option_to_list (option_map f found))) [] → None ≡ option_map (λ x. g (f x)) found
  none_found found alike = grind (arith, length_permutation _ _ alike)

  one_found : (found : Option X) (row : Row) (tail : List Row) → IsPermutation (map g (option_to_list (option_map f found))) (row ∷ tail) → Some row
      ≡ option_map (λ x. g (f x)) found
  one_found None row tail alike = absurd (omega (arith, length_permutation _ _ alike))
  one_found (Some x) row tail alike = let all : row ∷ tail ≡ g (f x) ∷ [] = one_permutation (g (f x)) _ alike in let it : row ≡ g (f x) = cc in ap Some it

  pub first_found : (command : Command) (db : Database) (params : Row) (found : Option X)
      → ((rows : List Row) → Shows command db params rows → IsPermutation (map g (option_to_list (option_map f found))) rows)
      → (row : Option Row) → ShowsFirst command db params row → row ≡ option_map (λ x. g (f x)) found
  first_found command db params found alike row shown = grind (arith, none_found, one_found)

-- ---- tables whose k-th row has number k

module _ {X : Type 0} (f : ℕ → X → Row) where
  any_row : (p : Row → Bool) (q : X → Bool) → ((n : ℕ) (x : X) → p (f n x) ≡ q x) → (n : ℕ) (xs : List X) → list_any p (rows_from f n xs) ≡ list_any q xs
  any_row p q same n [] = refl
  any_row p q same n (x ∷ xs) = ap₂ ◌||◌ (same n x) (any_row p q same (n + 1) xs)

  module _ (tree : ℕ) (db : Database) (xs : List X) (has : db.trees tree ≡ rows_from f 1 xs) (names : List (List ℕ)) where
    -- SELECT .. WHERE: there is a row where some x passes
    module _ (test shows : List Term) (params : Row) (q : X → Bool) (same : (n : ℕ) (x : X) → passes test params (f n x) ≡ q x) where
      searched : (rows : List Row) → Shows (selects (simple tree test shows) names) db params rows → not (length rows == 0) ≡ list_any q xs
      searched rows shown =
          let alike = simple_rows tree test shows params db.trees rows (shown.answer Null) in
          grind (arith, length_permutation _ rows alike, length-map, some_pass, has, any_row (passes test params) q same)

      pub finds : (row : Option Row) → ShowsFirst (selects (simple tree test shows) names) db params row → is_some row ≡ list_any q xs
      finds None shown = searched [] shown
      finds (Some row) shown = sym (some_row row shown.0) ∙ searched (row ∷ shown.0) shown.1

    module _ (ids : (n : ℕ) (x : X) → rowid (f n x) ≡ Int (pos n)) where
      -- SELECT number .. ORDER BY number DESC LIMIT 1
      last_rows : (rows : List Row) → Shows (selects (last_query f ids tree) names) db [] rows → rows ≡ last_of f ids tree (length xs)
      last_rows rows shown = last_number f ids tree [] db.trees xs has rows (shown.answer Null)

      no_last : (n : ℕ) → [] ≡ last_of f ids tree n → n ≡ 0
      no_last n h = grind arith

      some_last : (n : ℕ) (row : Row) (tail : List Row) → row ∷ tail ≡ last_of f ids tree n → column row 0 ≡ Int (pos n)
      some_last n row tail h = grind (arith, column)

      pub lasts : (row : Option Row) → ShowsFirst (selects (last_query f ids tree) names) db [] row → IsLastRow (length xs) row
      lasts None shown = no_last (length xs) (last_rows [] shown)
      lasts (Some row) shown = some_last (length xs) row shown.0 (last_rows (row ∷ shown.0) shown.1)

      -- SELECT .. WHERE number = ?1
      module _ (test shows : List Term) (same : (number n : ℕ) (x : X) → passes test (Int (pos number) ∷ []) (f n x) ≡ has_number f ids number (f n x)) where
        numbered_rows : (k : ℕ) (rows : List Row) → Shows (selects (simple tree test shows) names) db (Int (pos (suc k)) ∷ []) rows
            → IsPermutation (map (shown_of shows (Int (pos (suc k)) ∷ [])) (row_of f ids (suc k) (slice_get xs k))) rows
        numbered_rows k rows shown =
            let params = Int (pos (suc k)) ∷ [] in
            let alike = simple_rows tree test shows params db.trees rows (shown.answer Null) in
            grind (arith, alike, has, filter_numbered f ids (passes test params) (suc k) 1 xs (λ n x. same (suc k) n x), at_number f ids 1 k xs)

        -- what is shown of the record of this number
        abbrev pub shown_at : ℕ → X → Row
        shown_at number x = shown_of shows (Int (pos number) ∷ []) (f number x)

        -- the record of this number
        pub gets : (number : ℕ) → 1 ≤ number → (row : Option Row) → ShowsFirst (selects (simple tree test shows) names) db
            (Int (pos number) ∷ []) row → row ≡ option_map (shown_at number) (item_numbered xs number)
        gets zero least row shown = absurd (omega (arith, least))
        gets (suc k) least row shown = first_found (shown_of shows (Int (pos (suc k)) ∷ [])) (f (suc k))
            (selects (simple tree test shows) names) db (Int (pos (suc k)) ∷ []) (slice_get xs k) (numbered_rows k) row shown

-- WHERE number = ?1
pub passes_number : {X : Type 0} (f : ℕ → X → Row) (ids : (n : ℕ) (x : X) → rowid (f n x) ≡ Int (pos n)) (number n : ℕ) (x : X)
    → passes (at_key 0 0 ∷ []) (Int (pos number) ∷ []) (f n x) ≡ has_number f ids number (f n x)
unfolding binary
passes_number f ids number n x = grind (arith, is_true, binary, and-true, judged, is_eq)
