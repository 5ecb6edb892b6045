-- A short text has no U+FFFD.
use Rattle.request_target.proofs.Common.{◌≡◌, ◌<◌, List, ℕ, [], ◌∷◌, length, false, refl, arith}
use Rattle.request_target.specs.Pairs.{has_replacement}

pub short_has_none : (text : List ℕ) → length text < 3 → false ≡ has_replacement text
short_has_none [] short = refl
short_has_none (a ∷ []) short = refl
short_has_none (a ∷ b ∷ []) short = refl
short_has_none (a ∷ b ∷ c ∷ rest) short = absurd (omega arith)
