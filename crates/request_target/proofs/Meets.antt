-- Which paths a pattern of matchit meets: a parameter stands for one segment that is not empty.
use Rattle.request_target.proofs.Common.{◌≡◌, ◌⊎◌, ℕ, suc, List, [], ◌∷◌, drop, Bool, true, false, cond, Option, Some, None, nat_lt, ◌==◌, ◌&&◌, RowsOf, opens}

-- how many bytes stand before the first slash
abbrev pub segment_len : List ℕ → ℕ
segment_len [] = 0
segment_len (b ∷ p) = cond (b == 47) 0 (suc (segment_len p))

abbrev pub begins : ℕ → List ℕ → Bool
begins x [] = false
begins x (b ∷ p) = x == b

abbrev pub is_empty : List ℕ → Bool
is_empty [] = true
is_empty (b ∷ p) = false

abbrev pub meets : List ℕ → List ℕ → Bool
meets [] path = is_empty path
meets (x ∷ t) path = cond (x == 256) (nat_lt 0 (segment_len path) && meets t (drop (segment_len path) path)) (begins x path && meets t (drop 1 path))

abbrev pub all_bytes : List ℕ → Bool
all_bytes [] = true
all_bytes (b ∷ p) = nat_lt b 256 && all_bytes p

module _ {K : Type 0} where
  abbrev pub all_open : RowsOf K → Bool
  all_open [] = true
  all_open ((t, k) ∷ rest) = opens t && all_open rest

  -- some row goes on
  abbrev pub some_goes_on : RowsOf K → Bool
  some_goes_on [] = false
  some_goes_on (([], k) ∷ rest) = some_goes_on rest
  some_goes_on ((x ∷ t, k) ∷ rest) = true

  -- a row is in the list
  abbrev pub In : List ℕ → K → RowsOf K → Type 0
  In t k [] = ⊥
  In t k ((u, l) ∷ rest) = ((t ≡ u) × (k ≡ l)) ⊎ In t k rest

  -- the row that the path meets
  abbrev pub met_row : RowsOf K → List ℕ → Option K
  met_row [] path = None
  met_row ((t, k) ∷ rest) path = cond (meets t path) (Some k) (met_row rest path)
