-- Lists made from the numbers of a range.
use Rattle.rollout_machine.proofs.Common.{◌≡◌, ℕ, zero, suc, ◌+◌, ◌<◌, ◌≤◌, [], ◌∷◌, ◌++◌, refl, ap, arith, add-one, length, Some, slice_get, item_numbered}
use Rattle.rollout_machine.proofs.Common.{each_from}

longer : {X : Type 0} (f : ℕ → X) (a n : ℕ) → each_from f a (suc n) ≡ each_from f a n ++ f (a + n) ∷ []
longer f a zero = let e : a + 0 ≡ a = omega arith in rw e refl
longer f a (suc n) = let e : suc a + n ≡ a + suc n = omega arith in ap (λ xs. f a ∷ xs) (rw (← e) (longer f (suc a) n))

pub each_from_more : {X : Type 0} (f : ℕ → X) (a n j : ℕ) (x : X) → j ≡ a + n → x ≡ f j → each_from f a (n + 1) ≡ each_from f a n ++ x ∷ []
each_from_more f a n j x e d = rw (add-one, d, e) (longer f a n)

get_each : {X : Type 0} (f : ℕ → X) (a n i : ℕ) (x : X) → slice_get (each_from f a n) i ≡ Some x → (i < n) × (x ≡ f (a + i))
get_each f a zero i x e = cc
get_each f a (suc n) zero x e = let k : a + 0 ≡ a = omega arith in (omega arith, rw k (cc))
get_each f a (suc n) (suc i) x e = grind (arith, get_each f (suc a) n i x e)

pub each_there : {X : Type 0} (f : ℕ → X) (first n k i : ℕ) → k < n → i ≡ first + k → slice_get (each_from f first n) k ≡ Some (f i)
each_there f first zero k i below at = absurd (omega (arith, below))
each_there f first (suc n) zero i below at = ap (λ j. Some (f j)) (omega (arith, at))
each_there f first (suc n) (suc k) i below at = each_there f (suc first) n k i (omega (arith, below)) (omega (arith, at))

-- what stands at a number in the list of the numbers from 1 on
pub numbered_each : {X : Type 0} (f : ℕ → X) (n i : ℕ) (x : X) → item_numbered (each_from f 1 n) i ≡ Some x → (1 ≤ i) × (i ≤ n) × (x ≡ f i)
numbered_each f n i x e = grind (arith, get_each)

pub length_each : {X : Type 0} (f : ℕ → X) (a n : ℕ) → length (each_from f a n) ≡ n
length_each f a zero = refl
length_each f a (suc n) = ap suc (length_each f (suc a) n)
