-- The rows of the rollouts from 1 on, counted, where a column has the rollout's number.
use Rattle.desk_verify.proofs.Common.{◌≡◌, ◌≤◌, ◌<◌, ℕ, zero, suc, ◌+◌, true, List, [], ◌∷◌, filter, length, refl, arith, nat_tests, Row}
use Rattle.desk_verify.proofs.Common.{has_at, number_is, one_number, within, or_left, or_right}
use Rattle.std.proofs.lemmas.Bool.{or_cases}

-- what holds up to a number and of the next one
pub up_to_next : (P : ℕ → Type 0) (n : ℕ) → ((i : ℕ) → 1 ≤ i → i ≤ n → P i) → P (suc n) → (i : ℕ) → 1 ≤ i → i ≤ suc n → P i
up_to_next h0 n each next i low high = grind (arith, nat_tests)

module _ (place : ℕ) where
  pub is_within : (n r : ℕ) (row : Row) → 1 ≤ r → r ≤ n → has_at place r row ≡ true → within place n row ≡ true
  is_within zero r row low high = absurd (omega (arith, low, high))
  is_within (suc n) r row low high = grind (arith, is_within n, up_to_next, or_left, or_right)

  apart : (n k : ℕ) (row : Row) → n < k → within place n row ≡ true → has_at place k row ≡ true → ⊥
  apart zero k row less h of = cc
  apart (suc n) k row less h of = grind (arith, apart n k, or_cases, one_number, number_is)

  pub joined : (n : ℕ) (rows : List Row) → length (filter (within place (suc n)) rows)
      ≡ length (filter (within place n) rows) + length (filter (has_at place (suc n)) rows)
  joined n [] = refl
  joined n (row ∷ rows) = let never = apart n (suc n) row (omega arith) in grind (arith, nat_tests, joined n rows, never)

  pub none_within : (rows : List Row) → filter (within place 0) rows ≡ []
  none_within [] = refl
  none_within (row ∷ rows) = none_within rows
