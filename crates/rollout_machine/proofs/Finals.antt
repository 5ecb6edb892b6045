-- Where the counts of a group add up to its size, each member has an outcome.
use Rattle.rollout_machine.proofs.Common.{◌≡◌, ℕ, zero, suc, ◌+◌, ◌≤◌, ◌<◌, Bool, true, false, cond, refl, sym, ◌∙◌, ap, arith, Option, Some, None, inl, inr}
use Rattle.rollout_machine.proofs.Common.{is_some, outcome, Good, Gone, Bad, Outcome, tally, is_outcome, IsInGroup, FinalIsAll, count_from, group_in, first_of}
use Rattle.rollout_machine.proofs.Common.{size_in, all_final, cases_eq, eq-eqb, eqb-true}
use Rattle.rollout_machine.proofs.Counts.{count_few}

sum_of : (T : ℕ → Option Outcome) (a n : ℕ) → count_from (λ j. is_outcome Good (T j)) a n + count_from (λ j. is_outcome Bad (T j)) a n
    + count_from (λ j. is_outcome Gone (T j)) a n ≡ count_from (λ j. is_some (T j)) a n
sum_of T a zero = refl
sum_of T a (suc n) = go (count_from (λ j. is_outcome Good (T j)) a n) (count_from (λ j. is_outcome Bad (T j)) a n) (count_from (λ j. is_outcome Gone (T j)) a n)
    (count_from (λ j. is_some (T j)) a n) (T (a + n)) (sum_of T a n)
  where
    go : (g b x s : ℕ) (o : Option Outcome) → g + b + x ≡ s → (g + cond (is_outcome Good o) 1 0) + (b + cond (is_outcome Bad o) 1 0)
        + (x + cond (is_outcome Gone o) 1 0) ≡ s + cond (is_some o) 1 0
    go g b x s None e = omega (arith, e)
    go g b x s (Some Good) e = omega (arith, e)
    go g b x s (Some Bad) e = omega (arith, e)
    go g b x s (Some Gone) e = omega (arith, e)

full_to : (p : ℕ → Bool) (a n : ℕ) → count_from p a n ≡ n → (j : ℕ) → a ≤ j → j < a + n → p j ≡ true
full_to p a zero e j l u = absurd (omega (arith, l, u))
full_to p a (suc n) e j l u = go (p (a + n)) refl (count_from p a n) refl e (count_few p a n) (λ f. full_to p a n f j l)
  where
    go : (b : Bool) → p (a + n) ≡ b → (k : ℕ) → count_from p a n ≡ k → k + cond b 1 0 ≡ suc n → count_from p a n ≤ n
        → (count_from p a n ≡ n → j < a + n → p j ≡ true) → p j ≡ true
    go false d k c f m ih = absurd (omega (arith, f, m, c))
    go true d k c f m ih = elim (cases_eq j (a + n)) [
      | inl same ↦ ap p same ∙ d
      | inr other ↦ ih (omega (arith, f, c)) (below other)
    ]
      where
        below : (j ≡ a + n → ⊥) → j < a + n
        below other = omega arith

full_from : (p : ℕ → Bool) (a n : ℕ) → ((j : ℕ) → a ≤ j → j < a + n → p j ≡ true) → count_from p a n ≡ n
full_from p a zero h = refl
full_from p a (suc n) h =
    let before : count_from p a n ≡ n = full_from p a n (λ j l u. h j l (omega (arith, u))) in
    let here : p (a + n) ≡ true = h (a + n) (omega arith) (omega arith) in
    rw (here, before) (omega arith)

pub final_is_all : FinalIsAll
final_is_all x r i h = (to, from)
  where
    total : tally Good x r i h + tally Bad x r i h + tally Gone x r i h ≡ count_from (λ j. is_some (outcome h r j)) (first_of x i) (size_in x i)
    total = sum_of (λ j. outcome h r j) (first_of x i) (size_in x i)

    to : all_final (group_in x r h i) ≡ true → (j : ℕ) → IsInGroup x i j → is_some (outcome h r j) ≡ true
    to e j w = full_to (λ k. is_some (outcome h r k)) (first_of x i) (size_in x i) (sym total ∙ eqb-true _ _ e) j w.low w.high

    from : ((j : ℕ) → IsInGroup x i j → is_some (outcome h r j) ≡ true) → all_final (group_in x r h i) ≡ true
    from f = eq-eqb _ _ (total ∙ full_from (λ k. is_some (outcome h r k)) (first_of x i) (size_in x i) (λ j l u. f j (record { low = l; high = u })))
