-- What a query says to a call that names its keys.
use Rattle.std.specs.Prelude.{ℕ, List, [], ◌∷◌, Bool, true, not, nat_le, ◌&&◌, bytes_eq, Option, Some, None, option_and_then, if◌then◌else◌}
use Rattle.std.specs.List.{list_any}
use Rattle.request_target.specs.Pairs.{query_pairs, has_replacement}
use Rattle.request_target.specs.Numbers.{decimal_number}

-- each pair is without U+FFFD, the call names its key, and no key is given twice
abbrev pub are_clean : List (List ℕ) → List (List ℕ × List ℕ) → Bool
are_clean keys [] = true
are_clean keys (p ∷ pairs) =
    (not (has_replacement p.0) && not (has_replacement p.1) && list_any (λ k. bytes_eq p.0 k) keys)
    && not (list_any (λ q. bytes_eq q.0 p.0) pairs) && are_clean keys pairs

-- the pairs of a query, where the call takes them
abbrev pub query_pairs_of : List (List ℕ) → List ℕ → Option (List (List ℕ × List ℕ))
query_pairs_of keys query = if are_clean keys (query_pairs query) then Some (query_pairs query) else None

-- the value of a key, by a list of keys and values
abbrev pub value_of : {T : Type 0} → List ℕ → List (List ℕ × T) → Option T
value_of key [] = None
value_of key (p ∷ pairs) = if bytes_eq p.0 key then Some p.1 else value_of key pairs

-- a number in the range, or its default
abbrev pub number_or : ℕ → ℕ → ℕ → Option (List ℕ) → Option ℕ
number_or low high default None = Some default
number_or low high default (Some text) = option_and_then (λ n. if nat_le low n && nat_le n high then Some n else None) (decimal_number text)
