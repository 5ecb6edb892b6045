-- What is read of the parts of one numbered record, in the order of their places.
use Rattle.desk_records.proofs.Common.{◌≡◌, ◌<◌, ◌≤◌, ℕ, zero, suc, ◌+◌, ◌-◌, pos, List, [], ◌∷◌, map, filter, drop, slice_get, Bool, true, false, cond}
use Rattle.desk_records.proofs.Common.{reverse, refl, sym, ap, ◌∙◌, arith, Less, IsPermutation, nat_eq, nat_lt, AllByRecursion, ints, nat_tests, reverse_onto}
use Rattle.desk_records.proofs.Common.{map-append, IsPermutation-reverse, IsPermutation-sym, IsPermutation-trans, Int, Row, value_cmp, value_cmp-Int}
use Rattle.desk_records.proofs.Common.{IsAscending, Binary, Term, col, Trees, Query, Output, output_cmp, page, IsAnswer, overlay, output_cmp_total}
use Rattle.desk_records.proofs.Common.{sorted_unique, map-map, rows_from, IsHeldBy, IsBlind, on_content, held_seen, simple, by, passes, shown_of, shown_in}
use Rattle.desk_records.proofs.Common.{ordered_rows, item_numbered, listed_parts, part_row, parts_from, parts_numbered, parts_of, and-true}
use Rattle.std.proofs.Math.Seq.{drop-nil}
use Rattle.sqlite_exec.proofs.ScanLemmas.{ascending-reverse}
use Rattle.desk_records.proofs.Comparisons.{numbers_equal}
use Rattle.desk_records.proofs.MeaningWords.{at_key}
use Rattle.desk_records.proofs.Parts.{its_parts}

-- ---- either direction

-- a list, or where it falls its reverse
abbrev pub turned : {Z : Type 0} → Bool → List Z → List Z
turned falling xs = cond falling (reverse xs) xs

pub map_reverse : {A B : Type 0} (f : A → B) (xs : List A) → map f (reverse xs) ≡ reverse (map f xs)
map_reverse f [] = refl
map_reverse f (x ∷ xs) = grind (arith, map_reverse f xs, reverse_onto, map-append, reverse)

map_turned : {A B : Type 0} (f : A → B) (falling : Bool) (xs : List A) → map f (turned falling xs) ≡ turned falling (map f xs)
map_turned f falling xs = grind (arith, map_reverse)

pub turned_same : {A : Type 0} (falling : Bool) (xs ys : List A) → IsPermutation xs ys → IsPermutation (turned falling xs) ys
turned_same false xs ys same = same
turned_same true xs ys same = IsPermutation-trans _ _ _ (IsPermutation-sym xs _ (IsPermutation-reverse xs)) same

-- ---- in the order of the places

module _ {X Y : Type 0} (rest : Y → Row) (parts : X → List Y) (tree : ℕ) (test shows : List Term) (limit offset : Term) (params : Row) where
  -- SELECT .. ORDER BY the place, or the place DESC
  abbrev pub place_query : Bool → Query
  place_query falling = by (simple tree test shows) ((col 1 2, record { descending = falling; collation = Binary }) ∷ []) limit offset

  -- the first is listed before the second, or after it where the places fall
  abbrev ahead : Bool → Output → Output → Type 0
  ahead falling a b = cond falling (output_cmp (place_query falling) b a) (output_cmp (place_query falling) a b) ≡ Less

  turned_ascends : (falling : Bool) (os : List Output) → IsAscending (ahead falling) os → IsAscending (λ a b. output_cmp (place_query falling) a b ≡ Less)
      (turned falling os)
  turned_ascends false os rise = rise
  turned_ascends true os rise = ascending-reverse (ahead true) os rise

  abbrev passing : Row → Bool
  passing = on_content (passes test params)

  abbrev shown : Bool → Row → Output
  shown falling = on_content (shown_in (place_query falling) params)

  lower : (low high : ℕ) → low < high → value_cmp (Int (pos low)) (Int (pos high)) ≡ Less
  lower low high h = value_cmp-Int (pos low) (pos high) ∙ grind (arith, ints, nat_tests)

  module _ (number : ℕ) where
    abbrev row : ℕ → Y → Row
    row = part_row rest number

    earlier : (falling : Bool) (low high : ℕ) (y z : Y) → low < high → ahead falling (shown falling (row low y)) (shown falling (row high z))
    earlier false low high y z h = rw (lower low high h) refl
    earlier true low high y z h = rw (lower low high h) refl

    all_earlier : (falling : Bool) (low high : ℕ) (y : Y) (ys : List Y) → low < high
        → AllByRecursion (ahead falling (shown falling (row low y))) (map (shown falling) (filter passing (rows_from row high ys)))
    all_earlier falling low high y [] h = tt
    all_earlier falling low high y (z ∷ ys) h =
        grind (arith, earlier falling low high y z h, all_earlier falling low (high + 1) y ys (omega (arith, h)))

    in_order : (falling : Bool) (place : ℕ) (ys : List Y) → IsAscending (ahead falling) (map (shown falling) (filter passing (rows_from row place ys)))
    in_order falling place [] = tt
    in_order falling place (y ∷ ys) =
        grind (arith, all_earlier falling place (place + 1) y ys (omega arith), in_order falling (place + 1) ys)

  -- of a test that only the parts of the record of this number pass
  pub reads_parts : (falling : Bool) (number : ℕ) → 1 ≤ number → IsBlind (passes test params) → IsBlind (shown_in (place_query falling) params)
      → ((n place : ℕ) (y : Y) → nat_eq n number ≡ false → passing (part_row rest n place y) ≡ false)
      → (db : Trees) (xs : List X) → IsHeldBy (db tree) (parts_from (part_row rest) parts 1 xs) → (rows : List Row)
      → IsAnswer (place_query falling) (overlay db []) params rows
      → rows ≡ page (place_query falling) params
      (turned falling (map (on_content (shown_of shows params))
      (filter passing (rows_from (part_row rest number) 1 (parts_of parts (item_numbered xs number))))))
  reads_parts falling zero least blind fair others db xs held rows answer = absurd (omega (arith, least))
  reads_parts falling (suc k) least blind fair others db xs held rows answer =
      let q = place_query falling in
      let kept = filter passing (rows_from (part_row rest (suc k)) 1 (parts_of parts (slice_get xs k))) in
      let it = ordered_rows tree test shows q.order limit offset params db rows answer in
      let seen = held_seen (passes test params) blind (shown_in q params) fair (db tree) (parts_from (part_row rest) parts 1 xs) held in
      let its = its_parts (part_row rest) parts passing (suc k) others (parts_of parts) refl (λ x. refl) 1 k (omega arith) xs in
      let all : IsPermutation (map (shown falling) kept) it.ordered = grind (arith, its, IsPermutation-trans _ _ _ seen it.same) in
      let rise = turned_ascends falling _ (in_order (suc k) falling 1 (parts_of parts (slice_get xs k))) in
      it.is ∙ ap (λ l. page q params (map (λ (o : Output). o.1) l))
      (sorted_unique (output_cmp q) (output_cmp_total q) _ it.ordered rise (turned_same falling _ it.ordered all) it.sorted)
      ∙ ap (page q params) (map_turned (λ (o : Output). o.1) falling (map (shown falling) kept)
      ∙ ap (turned falling) (map-map (λ (o : Output). o.1) (shown falling) kept))

-- of all parts of the record, by a test that each of them passes
pub all_placed : {Y : Type 0} (rest : Y → Row) (told : ℕ → Y → Row) (number : ℕ) (test shows : List Term) (params : Row)
    → ((place : ℕ) (y : Y) → on_content (passes test params) (part_row rest number place y) ≡ true)
    → ((place : ℕ) (y : Y) → on_content (shown_of shows params) (part_row rest number place y) ≡ told place y) → (place : ℕ) (ys : List Y)
    → map (on_content (shown_of shows params)) (filter (on_content (passes test params)) (rows_from (part_row rest number) place ys)) ≡ rows_from told place ys
all_placed rest told number test shows params all is place [] = refl
all_placed rest told number test shows params all is place (y ∷ ys) = grind (arith, all_placed rest told number test shows params all is (place + 1) ys)

-- .. where what is shown doesn't tell the place
pub unplaced : {Y : Type 0} (told : Y → Row) (place : ℕ) (ys : List Y) → rows_from (λ n. told) place ys ≡ map told ys
unplaced told place [] = refl
unplaced told place (y ∷ ys) = ap (λ more. told y ∷ more) (unplaced told (place + 1) ys)

pub all_shown : {Y : Type 0} (rest told : Y → Row) (number : ℕ) (test shows : List Term) (params : Row)
    → ((place : ℕ) (y : Y) → on_content (passes test params) (part_row rest number place y) ≡ true)
    → ((place : ℕ) (y : Y) → on_content (shown_of shows params) (part_row rest number place y) ≡ told y) → (place : ℕ) (ys : List Y)
    → map (on_content (shown_of shows params)) (filter (on_content (passes test params)) (rows_from (part_row rest number) place ys)) ≡ map told ys
all_shown rest told number test shows params all is place ys = all_placed rest (λ n. told) number test shows params all is place ys ∙ unplaced told place ys

-- of the parts after so many, of which some are left before the first that passes
pub later_shown : {Y : Type 0} (rest told : Y → Row) (number : ℕ) (test shows : List Term) (params : Row) (offset : ℕ)
    → ((place : ℕ) (y : Y) → on_content (passes test params) (part_row rest number place y) ≡ nat_lt offset place)
    → ((place : ℕ) (y : Y) → on_content (shown_of shows params) (part_row rest number place y) ≡ told y) → (before left : ℕ) → left ≡ offset - before
    → (ys : List Y)
    → map (on_content (shown_of shows params)) (filter (on_content (passes test params)) (rows_from (part_row rest number) (before + 1) ys))
    ≡ map told (drop left ys)
later_shown rest told number test shows params offset past is before left so_many [] = sym (ap (map told) (drop-nil left))
later_shown rest told number test shows params offset past is before zero none (y ∷ ys) =
    grind (arith, later_shown rest told number test shows params offset past is (before + 1) zero (omega (arith, none)) ys)
later_shown rest told number test shows params offset past is before (suc left) so_many (y ∷ ys) =
    grind (arith, later_shown rest told number test shows params offset past is (before + 1) left (omega (arith, so_many)) ys, so_many)

-- ---- of a record that is kept as the list of its parts, by its number

module _ {Y : Type 0} (rest : Y → Row) (tree : ℕ) (shows : List Term) (limit offset : Term) (number : ℕ) where
  -- WHERE the record's number = ?1
  abbrev of_number : List Term
  of_number = at_key 1 0 ∷ []

  abbrev given : Row
  given = Int (pos number) ∷ []

  abbrev asked : Bool → Query
  asked = place_query rest (λ (its : List Y). its) tree of_number shows limit offset given

  pub reads_listed : (falling : Bool) → 1 ≤ number → IsBlind (shown_in (asked falling) given) → (told : ℕ → Y → Row)
      → ((place : ℕ) (y : Y) → on_content (shown_of shows given) (part_row rest number place y) ≡ told place y)
      → (db : Trees) (all : List (List Y)) → IsHeldBy (db tree) (listed_parts (part_row rest) all) → (rows : List Row)
      → IsAnswer (asked falling) (overlay db []) given rows
      → rows ≡ page (asked falling) given (turned falling (rows_from told 1 (parts_numbered all number)))
  reads_listed falling least fair told is db all held rows answer =
      reads_parts rest (λ (its : List Y). its) tree of_number shows limit offset given falling number least (λ id x. refl) fair
      (λ n place y apart. and-true _ ∙ numbers_equal n number ∙ apart) db all held rows answer
      ∙ ap (λ l. page (asked falling) given (turned falling l))
      (all_placed rest told number of_number shows given (λ place y. grind (arith, and-true, numbers_equal, nat_tests)) is 1 (parts_numbered all number))
