-- How a pattern is matched without going back: each piece at its first place, the last one at the end.
use Rattle.std.specs.Prelude.{ℕ, List, [], ◌∷◌, length, drop, Bool, false, cond, nat_eq, Option, Some, None}
use Rattle.std.specs.List.{starts_with, ends_with}
use Rattle.std.specs.Option.{option_map_or}
use Rattle.target_filter.specs.Patterns.{is_empty}

-- what stands behind the first place of a piece
abbrev pub after : List ℕ → List ℕ → Option (List ℕ)
after p [] = cond (starts_with nat_eq [] p) (Some (drop (length p) [])) None
after p (b ∷ bs) = cond (starts_with nat_eq (b ∷ bs) p) (Some (drop (length p) (b ∷ bs))) (after p bs)

abbrev pub greedy : List (List ℕ) → List ℕ → Bool
greedy [] t = is_empty t
greedy (p ∷ []) t = ends_with nat_eq t p
greedy (p ∷ q ∷ ps) t = option_map_or (greedy (q ∷ ps)) (after p t) false
