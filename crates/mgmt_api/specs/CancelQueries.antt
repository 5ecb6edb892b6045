-- Whether a cancel is forced, by its query.
use Rattle.std.specs.Prelude.{ℕ, Bool, true, false, List, [], ◌∷◌, codes, bytes_eq, Option, Some, None, option_and_then, if◌then◌else◌}
use Rattle.request_target.specs.Queries.{query_pairs_of, value_of}

-- `true` or `false`, which it is where it isn't given
abbrev pub truth_or_false : Option (List ℕ) → Option Bool
truth_or_false None = Some false
truth_or_false (Some text) = if bytes_eq text (codes "true") then Some true else (if bytes_eq text (codes "false") then Some false else None)

-- a query that holds no other key, and none twice
abbrev pub force_asked : List ℕ → Option Bool
force_asked query = option_and_then (λ pairs. truth_or_false (value_of (codes "force") pairs)) (query_pairs_of (codes "force" ∷ []) query)
