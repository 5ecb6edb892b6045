-- Path and query of a target.
use Rattle.std.specs.Prelude.{ℕ, ◌==◌, List}
use Rattle.std.specs.List.{before_first, after_first}

-- the target up to its first question mark
abbrev pub path_of : List ℕ → List ℕ
path_of target = before_first (λ b. b == 63) target

-- what follows the first question mark, or nothing
abbrev pub query_text : List ℕ → List ℕ
query_text target = after_first (λ b. b == 63) target
