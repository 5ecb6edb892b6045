-- An atom that doesn't begin with a parenthesis is a comparison.
use Rattle.target_filter.proofs.Common.{◌≡◌, ℕ, zero, suc, ◌<◌, List, [], ◌∷◌, take, Bool, false, eqb}
use Rattle.target_filter.proofs.Common.{refl, arith, pointwise, comparison_at, atom_at}

-- whether the byte stands in front, as `strip_prefix` tests it
abbrev pub begins : ℕ → List ℕ → Bool
begins b s = pointwise eqb (take 1 s) (b ∷ [])

pub atom_else : (n : ℕ) (s : List ℕ) → 0 < n → begins 40 s ≡ false → atom_at n s ≡ comparison_at s
atom_else zero s h b = absurd (omega arith)
atom_else (suc n) [] h b = refl
atom_else (suc n) (a ∷ s) h b = grind arith
