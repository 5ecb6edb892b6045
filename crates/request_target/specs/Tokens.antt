-- Patterns of matchit: lists of bytes and parameters. A parameter is the token 256.
use Rattle.std.specs.Prelude.{ℕ, List, [], ◌∷◌, Bool, true, false, not, cond, nat_lt, ◌==◌, ◌&&◌}
use Rattle.matchit.specs.Rows.{RowsOf}

-- the pattern is at its end, or at the end of a segment
abbrev pub opens : List ℕ → Bool
opens [] = true
opens (x ∷ t) = x == 47

-- each parameter ends the pattern or its segment, and there is no other token than bytes and parameters
abbrev pub is_plain : List ℕ → Bool
is_plain [] = true
is_plain (x ∷ t) = cond (x == 256) (opens t && is_plain t) (nat_lt x 256 && is_plain t)

-- no path meets both: where they first differ neither has a parameter
abbrev pub apart : List ℕ → List ℕ → Bool
apart [] [] = false
apart [] (y ∷ u) = true
apart (x ∷ t) [] = true
apart (x ∷ t) (y ∷ u) = cond (x == y) (apart t u) (not (x == 256) && not (y == 256))

module _ {K : Type 0} where
  abbrev pub all_plain : RowsOf K → Bool
  all_plain [] = true
  all_plain ((t, k) ∷ rest) = is_plain t && all_plain rest

  abbrev pub apart_from : List ℕ → RowsOf K → Bool
  apart_from t [] = true
  apart_from t ((u, l) ∷ rest) = apart t u && apart_from t rest

  abbrev pub all_apart : RowsOf K → Bool
  all_apart [] = true
  all_apart ((t, k) ∷ rest) = apart_from t rest && all_apart rest
