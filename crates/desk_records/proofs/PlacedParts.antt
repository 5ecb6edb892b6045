-- A part by the number of its record and by its place.
use Rattle.desk_records.proofs.Common.{◌≡◌, ◌≤◌, ◌&&◌, ℕ, zero, suc, pos, List, [], ◌∷◌, map, filter, slice_get, Bool, true, Option, Some, None, option_map}
use Rattle.desk_records.proofs.Common.{Shows, refl, ◌∙◌, arith, IsPermutation, nat_eq, option_to_list, nat_tests, IsPermutation-trans, Null, Int, Row}
use Rattle.desk_records.proofs.Common.{Term, Database, rows_from, IsHeldBy, ShowsFirst, IsBlind, on_content, held_seen, simple, passes, shown_of, simple_rows}
use Rattle.desk_records.proofs.Common.{item_numbered, part_row, parts_from, and-true}
use Rattle.desk_records.proofs.Comparisons.{numbers_equal}
use Rattle.desk_records.proofs.MeaningWords.{at_key, selects}
use Rattle.desk_records.proofs.NumberedReads.{first_found}
use Rattle.desk_records.proofs.Parts.{at_place, its_parts, none_after}

-- WHERE the record's number = ?1 AND the place = ?2
abbrev pub at_part : List Term
at_part = at_key 1 0 ∷ at_key 2 1 ∷ []

module _ {X Y : Type 0} (rest : Y → Row) (parts : X → List Y) (all : Option X → List Y) (none : all None ≡ []) (some : (x : X) → all (Some x) ≡ parts x) where
  -- the test of a part's number and place
  abbrev pub Names : ℕ → ℕ → (Row → Bool) → Type 0
  Names number place p = (n k : ℕ) (y : Y) → p (part_row rest n k y) ≡ (nat_eq n number && nat_eq k place)

  of_record : (number place : ℕ) (p : Row → Bool) → Names number place p → (k : ℕ) (y : Y) → p (part_row rest number k y) ≡ nat_eq k place
  of_record number place p names k y = let same : nat_eq number number ≡ true = grind (arith, nat_tests) in names number k y ∙ rw same refl

  found_in : (number place : ℕ) (p : Row → Bool) → Names number place p → (ys : List Y) → filter p (rows_from (part_row rest number) 1 ys)
      ≡ option_to_list (option_map (part_row rest number place) (item_numbered ys place))
  found_in number zero p names ys = none_after (part_row rest number) p zero (of_record number zero p names) 1 ys (omega arith)
  found_in number (suc k) p names ys = grind (arith, at_place (part_row rest number) p 1 k, of_record number (suc k) p names)

  pub its_part : (xs : List X) (number place : ℕ) (p : Row → Bool) → Names number place p → 1 ≤ number
      → filter p (parts_from (part_row rest) parts 1 xs)
      ≡ option_to_list (option_map (part_row rest number place) (item_numbered (all (item_numbered xs number)) place))
  its_part xs zero place p names least = absurd (omega (arith, least))
  its_part xs (suc k) place p names least =
      its_parts (part_row rest) parts p (suc k) (λ n j y apart. names n j y ∙ rw apart refl) all none some 1 k (omega arith) xs
      ∙ found_in (suc k) place p names (all (slice_get xs k))

  module _ (tree : ℕ) (db : Database) (xs : List X) (held : IsHeldBy (db.trees tree) (parts_from (part_row rest) parts 1 xs)) (names : List (List ℕ))
      (shows : List Term) (number place : ℕ) where
    abbrev params : Row
    params = Int (pos number) ∷ Int (pos place) ∷ []

    abbrev found : Option Y
    found = item_numbered (all (item_numbered xs number)) place

    names_it : Names number place (on_content (passes at_part params))
    names_it n k y = rw (numbers_equal n number, numbers_equal k place, and-true (nat_eq k place)) refl

    part_shown : 1 ≤ number → IsBlind (shown_of shows params) → (rows : List Row) → Shows (selects (simple tree at_part shows) names) db params rows
        → IsPermutation (map (on_content (shown_of shows params)) (option_to_list (option_map (part_row rest number place) found))) rows
    part_shown least fair rows shown =
        let f = shown_of shows params in
        let seen = held_seen (passes at_part params) (λ id x. refl) f fair (db.trees tree) (parts_from (part_row rest) parts 1 xs) held in
        let all = IsPermutation-trans _ _ _ seen (simple_rows tree at_part shows params db.trees rows (shown.answer Null)) in
        grind (arith, all, its_part xs number place (on_content (passes at_part params)) names_it)

    -- the part at the place, where it is there
    pub gets_part : 1 ≤ number → IsBlind (shown_of shows params) → (row : Option Row) → ShowsFirst (selects (simple tree at_part shows) names) db params row
        → row ≡ option_map (λ y. on_content (shown_of shows params) (part_row rest number place y)) found
    gets_part least fair row shown =
        first_found (on_content (shown_of shows params)) (part_row rest number place) (selects (simple tree at_part shows) names) db
        params found (part_shown least fair) row shown
