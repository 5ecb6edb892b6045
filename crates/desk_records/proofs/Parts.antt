-- The rows of the parts of numbered records, in lists alone.
use Rattle.desk_records.proofs.Common.{◌≡◌, ◌<◌, ◌++◌, ℕ, zero, suc, ◌+◌, List, [], ◌∷◌, filter, length, slice_get, Bool, true, false, Option, Some, None}
use Rattle.desk_records.proofs.Common.{option_map, refl, sym, ap, arith, nat_eq, append-nil, option_to_list, nat_tests, filter-append, Row, rows_from}
use Rattle.desk_records.proofs.Common.{parts_from, ◌∙◌, append_assoc}
use Rattle.rollout_machine.specs.Ranges.{each_from}

-- a changed last record whose row is the same
pub same_rows : {X : Type 0} (f : ℕ → X → Row) (x y : X) → ((n : ℕ) → f n y ≡ f n x) → (n : ℕ) (before : List X) → rows_from f n (before ++ y ∷ [])
    ≡ rows_from f n (before ++ x ∷ [])
same_rows f x y same n [] = ap (λ r. r ∷ []) (same n)
same_rows f x y same n (first ∷ before) = ap (λ l. f n first ∷ l) (same_rows f x y same (n + 1) before)

-- ---- the parts of one record

module _ {Y : Type 0} (f : ℕ → Y → Row) (p : Row → Bool) where
  pub none_pass : ((place : ℕ) (y : Y) → p (f place y) ≡ false) → (place : ℕ) (ys : List Y) → filter p (rows_from f place ys) ≡ []
  none_pass fails place [] = refl
  none_pass fails place (y ∷ ys) = rw (fails place y) (none_pass fails (place + 1) ys)

  pub all_pass : ((place : ℕ) (y : Y) → p (f place y) ≡ true) → (place : ℕ) (ys : List Y) → filter p (rows_from f place ys) ≡ rows_from f place ys
  all_pass passes place [] = refl
  all_pass passes place (y ∷ ys) = rw (passes place y) (ap (λ l. f place y ∷ l) (all_pass passes (place + 1) ys))

  pub none_after : (wanted : ℕ) → ((place : ℕ) (y : Y) → p (f place y) ≡ nat_eq place wanted) → (place : ℕ) (ys : List Y) → wanted < place
      → filter p (rows_from f place ys) ≡ []
  none_after wanted is place [] later = refl
  none_after wanted is place (y ∷ ys) later = grind (arith, nat_tests, is place y, none_after wanted is (place + 1) ys (omega (arith, later)))

  -- the one at a place
  pub at_place : (first k : ℕ) → ((place : ℕ) (y : Y) → p (f place y) ≡ nat_eq place (first + k)) → (ys : List Y) → filter p (rows_from f first ys)
      ≡ option_to_list (option_map (f (first + k)) (slice_get ys k))
  at_place first k is [] = refl
  at_place first zero is (y ∷ ys) = grind (arith, nat_tests, is first y, none_after (first + zero) is (first + 1) ys (omega arith))
  at_place first (suc k) is (y ∷ ys) = grind (arith, at_place (first + 1) k, nat_tests)

pub next_places : {Y : Type 0} (f : ℕ → Y → Row) (place : ℕ) (ys zs : List Y) → rows_from f place (ys ++ zs)
    ≡ rows_from f place ys ++ rows_from f (place + length ys) zs
next_places f place [] zs = let same : place ≡ place + 0 = omega arith in ap (λ p. rows_from f p zs) same
next_places f place (y ∷ ys) zs =
    let same : place + 1 + length ys ≡ place + suc (length ys) = omega arith in
    ap (λ l. f place y ∷ l) (next_places f (place + 1) ys zs ∙ ap (λ p. rows_from f (place + 1) ys ++ rows_from f p zs) same)

-- ---- the parts of all records

module _ {X Y : Type 0} (f : ℕ → ℕ → Y → Row) (parts : X → List Y) where
  -- a record with no parts adds none
  pub no_parts : (x : X) → parts x ≡ [] → (n : ℕ) (xs : List X) → parts_from f parts n (xs ++ x ∷ []) ≡ parts_from f parts n xs
  no_parts x none n [] = ap (λ ys. rows_from (f n) 1 ys ++ []) none
  no_parts x none n (y ∷ xs) = ap (λ l. rows_from (f n) 1 (parts y) ++ l) (no_parts x none (n + 1) xs)

  -- .. nor do many
  pub no_new_parts : (g : ℕ → X) → ((k : ℕ) → parts (g k) ≡ []) → (n : ℕ) (xs : List X) (first count : ℕ)
      → parts_from f parts n (xs ++ each_from g first count) ≡ parts_from f parts n xs
  no_new_parts g none n xs first zero = ap (parts_from f parts n) (append-nil xs)
  no_new_parts g none n xs first (suc count) =
      ap (parts_from f parts n) (sym (append_assoc xs (g first ∷ []) (each_from g (suc first) count)))
      ∙ no_new_parts g none n (xs ++ g first ∷ []) (suc first) count ∙ no_parts (g first) (none first) n xs

  -- ---- a test that only the parts of the record of a number can pass

  module _ (p : Row → Bool) (number : ℕ) (others : (n place : ℕ) (y : Y) → nat_eq n number ≡ false → p (f n place y) ≡ false) where
    none_later : (n : ℕ) (xs : List X) → number < n → filter p (parts_from f parts n xs) ≡ []
    none_later n [] low = refl
    none_later n (x ∷ xs) low = grind (arith, none_later (n + 1) xs (omega (arith, low)), nat_tests, filter-append, none_pass)

    module _ (all : Option X → List Y) (none : all None ≡ []) (some : (x : X) → all (Some x) ≡ parts x) where
      pub its_parts : (n k : ℕ) → number ≡ n + k → (xs : List X) → filter p (parts_from f parts n xs) ≡ filter p (rows_from (f number) 1 (all (slice_get xs k)))
      its_parts n k at [] = ap (λ ys. filter p (rows_from (f number) 1 ys)) (sym none)
      its_parts n zero at (x ∷ xs) = grind (arith, filter-append, none_later, append-nil)
      its_parts n (suc k) at (x ∷ xs) = grind (arith, its_parts (n + 1) k, nat_tests, filter-append, none_pass)
