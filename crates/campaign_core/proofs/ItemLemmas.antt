-- Where a test picks the item of a number, what it picks is what is changed.
use native.Mathlib.Omega.{arith}
use Rattle.campaign_core.proofs.Common.{◌≡◌, ℕ, zero, suc, Bool, true, cond, List, [], ◌∷◌, refl, ap, inl, inr, Option, Some, map}
use Rattle.campaign_core.proofs.Common.{slice_get, cases_Bool, item_numbered, BothOrNone, change_numbered, only_if}

-- the test holds of item k alone
pub record Picks {X : Type 0} (p : X → Bool) (k : ℕ) (xs : List X) : Type 0 where
  pub only : (j : ℕ) (x : X) → item_numbered xs j ≡ Some x → p x ≡ true → j ≡ k
  pub here : (x : X) → item_numbered xs k ≡ Some x → p x ≡ true

none_picked : {X : Type 0} (p : X → Bool) (f : X → X) (xs : List X) → ((i : ℕ) (x : X) → slice_get xs i ≡ Some x → p x ≡ true → ⊥)
    → map (λ x. cond (p x) (f x) x) xs ≡ xs
none_picked p f [] none = refl
none_picked p f (x ∷ xs) none = elim (cases_Bool (p x)) [
  | inl t ↦ absurd (none 0 x refl t)
  | inr e ↦ rw e (ap (λ ys. x ∷ ys) (none_picked p f xs (λ i y d. none (suc i) y d)))
]

pub picked : {X : Type 0} (p : X → Bool) (f : X → X) (k : ℕ) (xs : List X) → Picks p k xs → map (λ x. cond (p x) (f x) x) xs ≡ change_numbered k f xs
picked p f k [] w = refl
picked p f zero (x ∷ xs) w = none_picked p f (x ∷ xs) (λ i y d t. absurd (positive i (w.only (suc i) y d t)))
  where
    positive : (i : ℕ) → suc i ≡ 0 → ⊥
    positive i e = cc
picked p f (suc zero) (x ∷ xs) w = rw (w.here x refl) (ap (λ ys. f x ∷ ys) (none_picked p f xs (λ i y d t. absurd (beyond i (w.only (suc (suc i)) y d t)))))
  where
    beyond : (i : ℕ) → suc (suc i) ≡ 1 → ⊥
    beyond i e = cc
picked {X = X} p f (suc (suc n)) (x ∷ xs) w = elim (cases_Bool (p x)) [
  | inl t ↦ absurd (apart (w.only 1 x refl t))
  | inr e ↦ rw e (ap (λ ys. x ∷ ys) (picked p f (suc n) xs (record { only = rest; here = λ y d. w.here y d })))
]
  where
    apart : 1 ≡ suc (suc n) → ⊥
    apart e = cc

    rest : (j : ℕ) (y : X) → item_numbered xs j ≡ Some y → p y ≡ true → j ≡ suc n
    rest zero y d t = cc
    rest (suc i) y d t = less (w.only (suc (suc i)) y d t)
      where
        less : suc (suc i) ≡ suc (suc n) → suc i ≡ suc n
        less e = cc

-- what is done to an item matters there alone
pub changed_same : {X : Type 0} (f g : X → X) (k : ℕ) (xs : List X) → ((x : X) → item_numbered xs k ≡ Some x → f x ≡ g x) → change_numbered k f xs
    ≡ change_numbered k g xs
changed_same f g k [] same = refl
changed_same f g zero (x ∷ xs) same = refl
changed_same f g (suc zero) (x ∷ xs) same = ap (λ y. y ∷ xs) (same x refl)
changed_same f g (suc (suc n)) (x ∷ xs) same = ap (λ ys. x ∷ ys) (changed_same f g (suc n) xs same)

pub unchanged : {X : Type 0} (f : X → X) (k : ℕ) (xs : List X) → ((x : X) → item_numbered xs k ≡ Some x → f x ≡ x) → change_numbered k f xs ≡ xs
unchanged f k [] same = refl
unchanged f zero (x ∷ xs) same = refl
unchanged f (suc zero) (x ∷ xs) same = ap (λ y. y ∷ xs) (same x refl)
unchanged f (suc (suc n)) (x ∷ xs) same = ap (λ ys. x ∷ ys) (unchanged f (suc n) xs same)

-- the item that a view is of
pub record IsFound {V X : Type 0} (P : V → X → Type 0) (v : V) (o : Option X) : Type 0 where
  pub item : X
  pub there : o ≡ Some item
  pub is : P v item

pub found : {V X : Type 0} (P : V → X → Type 0) (v : Option V) (w : V) (o : Option X) → v ≡ Some w → BothOrNone P v o → IsFound P w o
found P v w o e is = grind arith

pub same_item : {X : Type 0} (o : Option X) (x y : X) → o ≡ Some x → o ≡ Some y → x ≡ y
same_item o x y d e = grind arith

pub only_found : {X : Type 0} (b : Bool) (o : Option X) (x : X) → only_if b o ≡ Some x → o ≡ Some x
only_found b o x e = grind arith
