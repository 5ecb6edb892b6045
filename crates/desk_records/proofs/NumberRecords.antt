-- What is read of the numbers of an action, where a ledger is held.
use Rattle.desk_records.proofs.Common.{◌≡◌, ◌≤◌, ℕ, ◌+◌, pos, true, false, List, [], ◌∷◌, ◌++◌, map, take, length, reverse, slice_get, Option, Some, None}
use Rattle.desk_records.proofs.Common.{Shows, shown_last_number, option_map, refl, ap, ◌∙◌, arith, last_or, option_or, reverse_onto, Null, Int, Row, Database}
use Rattle.desk_records.proofs.Common.{first_taken, rows_from, ShowsFirst, numbers_numbered, told_number, HoldsLedger, Ledger, Numbers, PlacedNumber}
use Rattle.desk_records.specs.FeedbackNumbers.{last_number}
use Rattle.desk_records.proofs.ActionMeaning.{last_number_columns, number_columns, of_action}
use Rattle.desk_records.proofs.PartReads.{reads_listed, unplaced}
use Rattle.desk_records.proofs.TargetRecords.{first_row}
use Rattle.desk_records.proofs.MeaningWords.{first_only, in_order, no_limit, no_offset, selects}

-- ---- the last of a list

pub last_joined : {X : Type 0} (o : Option X) (xs : List X) → last_or o xs ≡ option_or (last_or None xs) o
last_joined o [] = refl
last_joined o (x ∷ xs) = grind (arith, last_joined (Some x) xs)

first_or_last : {X : Type 0} (xs : List X) (x : X) → slice_get (xs ++ x ∷ []) 0 ≡ option_or (slice_get xs 0) (Some x)
first_or_last [] x = refl
first_or_last (y ∷ xs) x = refl

pub first_turned : {X : Type 0} (xs : List X) → slice_get (reverse xs) 0 ≡ last_or None xs
first_turned [] = refl
first_turned (x ∷ xs) = grind (arith, first_turned xs, reverse_onto, first_or_last, reverse, last_joined)

last_row : {Y : Type 0} (f : ℕ → Y → Row) (n : ℕ) (y : Y) (ys : List Y) → last_or (Some (f n y)) (rows_from f (n + 1) ys)
    ≡ option_map (f (n + length ys)) (last_or (Some y) ys)
last_row f n y [] = grind arith
last_row f n y (z ∷ ys) = grind (arith, last_row f (n + 1) z ys)

-- ---- what is shown

abbrev told_at : ℕ → PlacedNumber → Row
told_at place it = shown_last_number (record { place = place; it = it })

last_told : (its : List PlacedNumber) → slice_get (take 1 (reverse (rows_from told_at 1 its))) 0 ≡ option_map shown_last_number (last_number its)
last_told its = first_taken _ ∙ first_turned (rows_from told_at 1 its) ∙ go its
  where
    go : (l : List PlacedNumber) → last_or None (rows_from told_at 1 l) ≡ option_map shown_last_number (last_number l)
    go [] = refl
    go (it ∷ more) = grind (arith, last_row told_at 1 it more)

module _ (db : Database) (l : Ledger) (holds : HoldsLedger db l) (names : List (List ℕ)) where
  abbrev tree : ℕ
  tree = (holds.spot Numbers).tree

  -- in the order of their places
  pub lists_numbers : (number : ℕ) → 1 ≤ number → (rows : List Row) → Shows (selects (in_order 2 false of_action number_columns no_limit no_offset tree) names)
      db (Int (pos number) ∷ []) rows → rows ≡ map told_number (numbers_numbered l.numbers number)
  lists_numbers number least rows shows =
      reads_listed told_number tree number_columns no_limit no_offset number false least (λ id x. refl) (λ place. told_number)
      (λ place it. refl) db.trees l.numbers (holds.rows Numbers) rows (shows.answer Null)
      ∙ unplaced told_number 1 (numbers_numbered l.numbers number)

  -- the last one
  pub lasts_number : (number : ℕ) → 1 ≤ number → (row : Option Row)
      → ShowsFirst (selects (in_order 2 true of_action last_number_columns first_only no_offset tree) names) db
      (Int (pos number) ∷ []) row → row ≡ option_map shown_last_number (last_number (numbers_numbered l.numbers number))
  lasts_number number least row shown =
      first_row (selects (in_order 2 true of_action last_number_columns first_only no_offset tree) names) db (Int (pos number) ∷ []) _
      (λ rows shows. ap (λ (r : List Row). slice_get r 0)
      (reads_listed told_number tree last_number_columns first_only no_offset number true least (λ id x. refl) told_at (λ place it. refl)
      db.trees l.numbers (holds.rows Numbers) rows (shows.answer Null))
      ∙ last_told (numbers_numbered l.numbers number)) row shown
