-- Lists in which one changes, and rows that don't tell of the change.
use Rattle.desk_records.proofs.Common.{◌≡◌, ◌≢◌, ◌++◌, ◌<◌, ℕ, zero, suc, ◌+◌, List, [], ◌∷◌, length, set, slice_get, Some, refl, ap, ◌∙◌, arith, nat_eq, not}
use Rattle.desk_records.proofs.Common.{cond}
use Rattle.desk_records.proofs.Common.{Bool, true, false, ◌&&◌, append_assoc, IsPermutation, list_all, zip, nat_tests, IsPermutation-trans}
use Rattle.desk_records.proofs.Common.{IsPermutation-append_left, IsPermutation-append_right, subst, Row, rows_from, changed, item_numbered, ActionRecord}
use Rattle.desk_records.proofs.Common.{RolloutRecord}
use Rattle.desk_records.proofs.Common.{Tally, actor_of, action_row, part_row, parts_from}
use Rattle.rollout_machine.specs.StateWords.{member_at}
use Rattle.std.proofs.lemmas.List.Sorted.{IsPermutation-append_comm}
use Rattle.desk_records.proofs.Parts.{next_places}

module _ {X : Type 0} (x y : X) where
  -- of a change that the rows don't show
  pub rows_stay : (f : ℕ → X → Row) → ((n : ℕ) → f n y ≡ f n x) → (n k : ℕ) (xs : List X) → slice_get xs k ≡ Some x → rows_from f n (set xs k y)
      ≡ rows_from f n xs
  rows_stay f same n k [] there = refl
  rows_stay f same n zero (z ∷ xs) there = grind (arith, same n)
  rows_stay f same n (suc k) (z ∷ xs) there = grind (arith, rows_stay f same (n + 1) k xs)

  -- of a change that the parts don't show
  pub parts_stay : {Y : Type 0} (f : ℕ → ℕ → Y → Row) (parts : X → List Y) → parts y ≡ parts x → (n k : ℕ) (xs : List X) → slice_get xs k ≡ Some x
      → parts_from f parts n (set xs k y) ≡ parts_from f parts n xs
  parts_stay f parts same n k [] there = refl
  parts_stay f parts same n zero (z ∷ xs) there = grind (arith, same)
  parts_stay f parts same n (suc k) (z ∷ xs) there = grind (arith, parts_stay f parts same (n + 1) k xs)

-- ---- further parts of the record of a number

front_of : {A : Type 0} (xs ys zs : List A) → IsPermutation (xs ++ (ys ++ zs)) (ys ++ (xs ++ zs))
front_of xs ys zs = subst (λ l. IsPermutation l (ys ++ (xs ++ zs))) (append_assoc xs ys zs)
    (subst (IsPermutation ((xs ++ ys) ++ zs)) (append_assoc ys xs zs) (IsPermutation-append_left zs _ _ (IsPermutation-append_comm xs ys)))

module _ {X Y : Type 0} (f : ℕ → ℕ → Y → Row) (parts : X → List Y) (x y : X) (new : List Y) (more : parts y ≡ parts x ++ new) where
  parts_more : (n k number place : ℕ) (xs : List X) → number ≡ n + k → place ≡ length (parts x) + 1 → slice_get xs k ≡ Some x
      → IsPermutation (parts_from f parts n (set xs k y)) (rows_from (f number) place new ++ parts_from f parts n xs)
  parts_more n k number place [] at next there = absurd cc
  parts_more n zero number place (z ∷ xs) at next there =
      let own = rows_from (f n) 1 (parts x) in
      let rest = parts_from f parts (n + 1) xs in
      let is : z ≡ x = cc in
      let here : number ≡ n = omega (arith, at) in
      let last : 1 + length (parts x) ≡ place = omega (arith, next) in
      let rows : rows_from (f n) 1 (parts y) ≡ own ++ rows_from (f n) place new =
      ap (rows_from (f n) 1) more ∙ next_places (f n) 1 (parts x) new ∙ ap (λ p. own ++ rows_from (f n) p new) last in
      rw (is, here, rows, append_assoc own (rows_from (f n) place new) rest) (front_of own (rows_from (f n) place new) rest)
  parts_more n (suc k) number place (z ∷ xs) at next there =
      let own = rows_from (f n) 1 (parts z) in
      IsPermutation-trans _ _ _ (IsPermutation-append_right own _ _ (parts_more (n + 1) k number place xs (omega (arith, at)) next there))
      (front_of own (rows_from (f number) place new) (parts_from f parts (n + 1) xs))

  pub parts_are_more : (k place : ℕ) (xs : List X) → slice_get xs k ≡ Some x → place ≡ length (parts x) + 1
      → IsPermutation (parts_from f parts 1 (set xs k y)) (rows_from (f (suc k)) place new ++ parts_from f parts 1 xs)
  parts_are_more k place xs there next = parts_more 1 k (suc k) place xs (omega arith) next there

-- .. and one
module _ {X Y : Type 0} (f : ℕ → ℕ → Y → Row) (parts : X → List Y) (x y : X) (part : Y) (more : parts y ≡ parts x ++ part ∷ []) where
  pub part_is_more : (k place : ℕ) (xs : List X) → slice_get xs k ≡ Some x → place ≡ length (parts x) + 1
      → IsPermutation (parts_from f parts 1 (set xs k y)) (f (suc k) place part ∷ parts_from f parts 1 xs)
  part_is_more = parts_are_more f parts x y (part ∷ []) more

  -- .. of the last record
  pub last_is_more : (number place : ℕ) (before : List X) → number ≡ length before + 1 → place ≡ length (parts x) + 1
      → IsPermutation (parts_from f parts 1 (before ++ y ∷ [])) (f number place part ∷ parts_from f parts 1 (before ++ x ∷ []))
  last_is_more number place before last next =
      grind (
        arith,
        last_set before,
        parts_more f parts x y (part ∷ []) more 1 (length before) number place (before ++ x ∷ []) (omega (arith, last)) next
            (last_there before),
      )
    where
      last_there : (before : List X) → slice_get (before ++ x ∷ []) (length before) ≡ Some x
      last_there [] = refl
      last_there (b ∷ more) = last_there more

      last_set : (before : List X) → set (before ++ x ∷ []) (length before) y ≡ before ++ y ∷ []
      last_set [] = refl
      last_set (b ∷ more) = ap (λ l. b ∷ l) (last_set more)

-- ---- another part in place of one

changed_append : (p : Row → Bool) (g : Row → Row) (as' bs : List Row) → changed p g (as' ++ bs) ≡ changed p g as' ++ changed p g bs
changed_append p g [] bs = refl
changed_append p g (a ∷ as') bs = ap (λ l. cond (p a) (g a) a ∷ l) (changed_append p g as' bs)

module _ {X Y : Type 0} (rest : Y → Row) (parts : X → List Y) (p : Row → Bool) (g : Row → Row) (x y : X) (number place : ℕ) (one other : Y)
    (named : (n k : ℕ) (z : Y) → p (part_row rest n k z) ≡ (nat_eq n number && nat_eq k place))
    (becomes : (n k : ℕ) → g (part_row rest n k one) ≡ part_row rest n k other) where
  others_kept : (n : ℕ) → nat_eq n number ≡ false → (k : ℕ) (zs : List Y) → changed p g (rows_from (part_row rest n) k zs) ≡ rows_from (part_row rest n) k zs
  others_kept n apart k [] = refl
  others_kept n apart k (z ∷ zs) = grind (arith, others_kept n apart (k + 1) zs, named n k z)

  rows_passed : (k : ℕ) (zs : List Y) → place < k → changed p g (rows_from (part_row rest number) k zs) ≡ rows_from (part_row rest number) k zs
  rows_passed k [] low = refl
  rows_passed k (z ∷ zs) low = grind (arith, nat_tests, rows_passed (k + 1) zs, named number k z)

  row_set : (k j : ℕ) (zs : List Y) → place ≡ k + j → slice_get zs j ≡ Some one → changed p g (rows_from (part_row rest number) k zs)
      ≡ rows_from (part_row rest number) k (set zs j other)
  row_set k j [] at there = absurd cc
  row_set k zero (z ∷ zs) at there = grind (arith, nat_tests, rows_passed (k + 1) zs, named number k z, becomes number k)
  row_set k (suc j) (z ∷ zs) at there = grind (arith, nat_tests, row_set (k + 1) j zs, named number k z)

  parts_passed : (n : ℕ) (xs : List X) → number < n → changed p g (parts_from (part_row rest) parts n xs) ≡ parts_from (part_row rest) parts n xs
  parts_passed n [] low = refl
  parts_passed n (z ∷ xs) low = grind (arith, nat_tests, changed_append, others_kept n, parts_passed (n + 1) xs)

  pub part_set : (n i j : ℕ) (xs : List X) → number ≡ n + i → place ≡ 1 + j → slice_get xs i ≡ Some x → slice_get (parts x) j ≡ Some one → parts y
      ≡ set (parts x) j other
      → changed p g (parts_from (part_row rest) parts n xs) ≡ parts_from (part_row rest) parts n (set xs i y)
  part_set n i j [] at spot there part same = absurd cc
  part_set n zero j (z ∷ xs) at spot there part same =
      grind (arith, row_set 1 j (parts x) spot part, same, changed_append, parts_passed (n + 1) xs)
  part_set n (suc i) j (z ∷ xs) at spot there part same = grind (arith, nat_tests, changed_append, others_kept n, part_set (n + 1) i j xs)

-- ---- the targets of actions

module _ (p : ℕ) where
  added_slice : (x : RolloutRecord) → x.members ≡ [] → (xs : List RolloutRecord) (j : ℕ) → member_at (slice_get (xs ++ x ∷ []) j) p
      ≡ member_at (slice_get xs j) p
  added_slice x none [] zero = grind (arith, none)
  added_slice x none [] (suc j) = refl
  added_slice x none (z ∷ xs) zero = refl
  added_slice x none (z ∷ xs) (suc j) = added_slice x none xs j

  set_slice : (x y : RolloutRecord) → y.members ≡ x.members → (xs : List RolloutRecord) (k j : ℕ) → slice_get xs k ≡ Some x
      → member_at (slice_get (set xs k y) j) p ≡ member_at (slice_get xs j) p
  set_slice x y same [] k j there = refl
  set_slice x y same (z ∷ xs) zero j there = grind (arith, same)
  set_slice x y same (z ∷ xs) (suc k) zero there = refl
  set_slice x y same (z ∷ xs) (suc k) (suc j) there = set_slice x y same xs k j there

-- a rollout without members is no action's
pub actors_of_more : (x : RolloutRecord) → x.members ≡ [] → (xs : List RolloutRecord) (a : ActionRecord) → actor_of (xs ++ x ∷ []) a ≡ actor_of xs a
actors_of_more x none xs a = grind (arith, added_slice a.position x none xs)

pub actors_stay : (x y : RolloutRecord) → y.members ≡ x.members → (k : ℕ) (xs : List RolloutRecord) → slice_get xs k ≡ Some x → (a : ActionRecord)
    → actor_of (set xs k y) a ≡ actor_of xs a
actors_stay x y same k xs there a = grind (arith, set_slice a.position x y same xs k)

pub actions_stay : (xs ys : List RolloutRecord) → ((a : ActionRecord) → actor_of ys a ≡ actor_of xs a) → (n : ℕ) (zs : List (ActionRecord × Tally))
    → rows_from (action_row ys) n zs ≡ rows_from (action_row xs) n zs
actions_stay xs ys same n [] = refl
actions_stay xs ys same n (z ∷ zs) = rw (same z.0) (ap (λ l. action_row xs n z ∷ l) (actions_stay xs ys same (n + 1) zs))

-- where no action is of the rollout that changes
pub actions_of_others : (xs : List RolloutRecord) (k : ℕ) (y : RolloutRecord) (n : ℕ) (as' : List ActionRecord) (ts : List Tally)
    → list_all (λ (a : ActionRecord). not (nat_eq a.rollout (suc k))) as' ≡ true
    → rows_from (action_row (set xs k y)) n (zip as' ts) ≡ rows_from (action_row xs) n (zip as' ts)
actions_of_others xs k y n [] ts none = refl
actions_of_others xs k y n (a ∷ as') [] none = refl
actions_of_others xs k y n (a ∷ as') (t ∷ ts) none = grind (arith, other a.rollout, actions_of_others xs k y (n + 1) as' ts)
  where
    apart : (zs : List RolloutRecord) (k j : ℕ) → j ≢ k → slice_get (set zs k y) j ≡ slice_get zs j
    apart [] k j h = refl
    apart (z ∷ zs) zero j h = grind arith
    apart (z ∷ zs) (suc k) zero h = refl
    apart (z ∷ zs) (suc k) (suc j) h = apart zs k j (λ e. h (ap suc e))

    other : (r : ℕ) → not (nat_eq r (suc k)) ≡ true → item_numbered (set xs k y) r ≡ item_numbered xs r
    other zero h = refl
    other (suc j) h = apart xs k j (grind (arith, nat_tests, h))

-- ---- two lists side by side

module _ {A B : Type 0} where
  pub zip_on : (as' : List A) (bs : List B) (cs : List A) (ds : List B) → length bs ≡ length as' → zip (as' ++ cs) (bs ++ ds) ≡ zip as' bs ++ zip cs ds
  zip_on [] [] cs ds same = refl
  zip_on [] (y ∷ bs) cs ds same = absurd (omega (arith, same))
  zip_on (x ∷ as') [] cs ds same = absurd (omega (arith, same))
  zip_on (x ∷ as') (y ∷ bs) cs ds same = grind (arith, zip_on as' bs cs ds)

  pub length_zip : (as' : List A) (bs : List B) → length bs ≡ length as' → length (zip as' bs) ≡ length as'
  length_zip [] bs same = refl
  length_zip (x ∷ as') bs same = grind (arith, length_zip as')

  pub zip_set : (as' : List A) (bs : List B) (k : ℕ) (a : A) (b : B) → zip (set as' k a) (set bs k b) ≡ set (zip as' bs) k (a, b)
  zip_set [] bs k a b = refl
  zip_set (x ∷ as') bs k a b = grind (arith, zip_set as')

  pub first_of : (as' : List A) (bs : List B) (k : ℕ) (it : A × B) → slice_get (zip as' bs) k ≡ Some it → slice_get as' k ≡ Some it.0
  first_of [] bs k it there = absurd cc
  first_of (x ∷ as') bs k it there = grind (arith, first_of as')

-- an action whose row doesn't tell of the change
pub acts_stay : (rollouts : List RolloutRecord) (x y : ActionRecord) → ((n : ℕ) (t : Tally) → action_row rollouts n (y, t) ≡ action_row rollouts n (x, t))
    → (n k : ℕ) (as' : List ActionRecord) (ts : List Tally) → slice_get as' k ≡ Some x
    → rows_from (action_row rollouts) n (zip (set as' k y) ts) ≡ rows_from (action_row rollouts) n (zip as' ts)
acts_stay rollouts x y same n k [] ts there = refl
acts_stay rollouts x y same n k (a ∷ as') [] there = grind arith
acts_stay rollouts x y same n zero (a ∷ as') (t ∷ ts) there = grind (arith, same n t)
acts_stay rollouts x y same n (suc k) (a ∷ as') (t ∷ ts) there = grind (arith, acts_stay rollouts x y same (n + 1) k as' ts)
