-- Which route a path has. Paths are compared segment by segment, as they are written.
use Rattle.std.specs.Prelude.{ℕ, List, [], ◌∷◌, length, Bool, false, ◌==◌, nat_lt, bytes_eq, Option, Some, None, if◌then◌else◌}
use Rattle.std.specs.Cmp.Lexicographic.{pointwise}
use Rattle.std.specs.List.{slice_split}
use Rattle.std.specs.Str.{is_utf8}

-- what stands before, between and after the slashes
abbrev pub segments : List ℕ → List (List ℕ)
segments path = slice_split (λ b. b == 47) path

-- a route's segment that begins with `{` is a parameter
abbrev pub is_parameter : List ℕ → Bool
is_parameter [] = false
is_parameter (b ∷ rest) = b == 123

-- a parameter stands for one segment that is not empty, any other segment for itself
abbrev pub stands_for : List ℕ → List ℕ → Bool
stands_for part segment = if is_parameter part then nat_lt 0 (length segment) else bytes_eq part segment

-- what the path's route leads to, by a table of routes, each part of which stands for the segment at its place
abbrev pub route_in : {T : Type 0} → List (List ℕ × T) → List ℕ → Option T
route_in [] path = None
route_in (r ∷ table) path = if pointwise stands_for (segments r.0) (segments path) then Some r.1 else route_in table path

-- the same of a path in bytes: what is no text leads nowhere
unfoldable pub route_of : {T : Type 0} → List (List ℕ × T) → List ℕ → Option T
route_of table path = if is_utf8 path then route_in table path else None
