-- The conditions of a rollout's body, each with a threshold.
use Rattle.std.specs.Prelude.{ℕ, ◌+◌, ◌-◌, ◌*◌, List, [], ◌∷◌, Bool, false, ◌&&◌, ◌==◌, nat_le, bytes_eq, codes, Option, Some, None, option_and_then}
use Rattle.std.specs.Prelude.{if◌then◌else◌}
use Rattle.std.specs.Char.{is_ascii_digit}
use Rattle.std.specs.Option.{option_map_or}
use Rattle.serde_json.specs.Data.{Data}
use Rattle.rollout_model.specs.Rules.{kept_if, is_percentage}
use Rattle.mgmt_objects.specs.Bodies.{string_member}

-- the number that the digits write after n, where it is at most 100
abbrev pub percent_after : ℕ → List ℕ → Option ℕ
percent_after n [] = Some n
percent_after n (c ∷ cs) = if is_ascii_digit c && nat_le (10 * n + (c - 48)) 100 then percent_after (10 * n + (c - 48)) cs else None

-- a percentage from 1 to 100, by digits without a leading zero
abbrev pub percentage_of_text : List ℕ → Option ℕ
percentage_of_text [] = None
percentage_of_text (c ∷ cs) = if c == 48 then None else option_and_then (kept_if is_percentage) (percent_after 0 (c ∷ cs))

-- a member is this word
abbrev pub says : List ℕ → List ℕ → Data → Bool
says key word d = option_map_or (λ text. bytes_eq text word) (string_member key d) false

-- an object with `condition`, which is `THRESHOLD`, and `expression`, a percentage
abbrev pub threshold_of : Data → Option ℕ
threshold_of d = if says (codes "condition") (codes "THRESHOLD") d then option_and_then percentage_of_text (string_member (codes "expression") d) else None
