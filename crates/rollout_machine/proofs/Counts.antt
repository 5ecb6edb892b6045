-- Counts over positions: equal where the tests agree, one more where they differ at one place.
use Rattle.rollout_machine.proofs.Common.{◌≡◌, ℕ, zero, suc, ◌+◌, ◌<◌, ◌≤◌, Bool, true, false, refl, sym, arith, inl, inr, cases_eq, count_from}
use Rattle.rollout_machine.proofs.Common.{some_up_to}
use mathlib.Core.Bool.{or-false}

pub count_same : (p q : ℕ → Bool) (first n : ℕ) → ((j : ℕ) → first ≤ j → j < first + n → p j ≡ q j) → count_from p first n ≡ count_from q first n
count_same p q first zero h = refl
count_same p q first (suc n) h =
    let before : count_from p first n ≡ count_from q first n = count_same p q first n (λ j l u. h j l (omega arith)) in
    let here : p (first + n) ≡ q (first + n) = h (first + n) (omega arith) (omega arith) in
    cc (before, here)

pub count_none : (p : ℕ → Bool) (first n : ℕ) → ((j : ℕ) → first ≤ j → j < first + n → p j ≡ false) → count_from p first n ≡ 0
count_none p first zero h = refl
count_none p first (suc n) h =
    let before : count_from p first n ≡ 0 = count_none p first n (λ j l u. h j l (omega arith)) in
    let here : p (first + n) ≡ false = h (first + n) (omega arith) (omega arith) in
    rw (before, here) refl

pub count_one : (p q : ℕ → Bool) (first n j : ℕ) → first ≤ j → j < first + n → p j ≡ false → q j ≡ true
    → ((k : ℕ) → first ≤ k → k < first + n → (k ≡ j → ⊥) → p k ≡ q k) → count_from q first n ≡ count_from p first n + 1
count_one p q first zero j l u e f h = absurd (omega arith)
count_one p q first (suc n) j l u e f h = elim (cases_eq j (first + n)) [
  | inl same ↦
      (let before : count_from p first n ≡ count_from q first n = count_same p q first n (λ k m v. h k m (omega arith) (λ w. omega arith)) in
      let P : p (first + n) ≡ false = rw (← same) e in
      let Q : q (first + n) ≡ true = rw (← same) f in
      rw (P, Q) (omega arith))
  | inr other ↦
      (let before : count_from q first n ≡ count_from p first n + 1 = count_one p q first n j l (omega arith) e f (λ k m v w. h k m (omega arith) w) in
      let here : p (first + n) ≡ q (first + n) = h (first + n) (omega arith) (omega arith) (λ w. other (sym w)) in
      rw here (omega arith))
]

pub none_up_to : (p : ℕ → Bool) (n : ℕ) → ((i : ℕ) → 1 ≤ i → i ≤ n → p i ≡ false) → some_up_to p n ≡ false
none_up_to p zero h = refl
none_up_to p (suc n) h =
    let before : some_up_to p n ≡ false = none_up_to p n (λ i l u. h i l (omega arith)) in
    let here : p (suc n) ≡ false = h (suc n) (omega arith) (omega arith) in
    rw (before, here) refl

pub one_up_to : (p : ℕ → Bool) (n k : ℕ) → 1 ≤ k → k ≤ n → ((i : ℕ) → 1 ≤ i → i ≤ n → (i ≡ k → ⊥) → p i ≡ false) → some_up_to p n ≡ p k
one_up_to p zero k l u h = absurd (omega arith)
one_up_to p (suc n) k l u h = elim (cases_eq k (suc n)) [
  | inl same ↦
      (let before : some_up_to p n ≡ false = none_up_to p n (λ i m v. h i m (omega arith) (λ w. omega arith)) in
      rw (before, same) refl)
  | inr other ↦
      (let before : some_up_to p n ≡ p k = one_up_to p n k l (omega arith) (λ i m v w. h i m (omega arith) w) in
      let here : p (suc n) ≡ false = h (suc n) (omega arith) (omega arith) (λ w. other (sym w)) in
      rw (before, here) (or-false (p k)))
]

pub count_few : (p : ℕ → Bool) (first n : ℕ) → count_from p first n ≤ n
count_few p first zero = omega arith
count_few p first (suc n) = grind (arith, count_few p first n)
