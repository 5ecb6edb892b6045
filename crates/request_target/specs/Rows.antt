-- The rows of a router that was made of a table of routes.
use Rattle.std.specs.Prelude.{ℕ, List, [], ◌∷◌, ◌++◌, Bool, true, false, not, ◌==◌, ◌&&◌, ◌||◌, nat_lt, bytes_eq, Result, Ok, Err, if◌then◌else◌}
use Rattle.std.specs.List.{list_all}
use Rattle.matchit.specs.Rows.{RowsOf}
use Rattle.matchit.specs.Route.{Scan, parse_route}
use Rattle.matchit.specs.Router.{RouteOf, route_from}
use Rattle.matchit.specs.Order.{placed}
use Rattle.matchit.specs.declared.error.InsertError.{InsertError}
use Rattle.request_target.specs.Routes.{segments, is_parameter}
use Rattle.request_target.specs.Tokens.{all_plain, all_apart, apart_from}

-- ---- a segment of a route as tokens

-- a parameter is one token, anything else its bytes
abbrev pub part_tokens : List ℕ → List ℕ
part_tokens part = if is_parameter part then 256 ∷ [] else part

abbrev pub tokens : List (List ℕ) → List ℕ
tokens [] = []
tokens (part ∷ []) = part_tokens part
tokens (part ∷ next ∷ rest) = part_tokens part ++ 47 ∷ tokens (next ∷ rest)

-- bytes without a slash
abbrev pub is_literal_part : List ℕ → Bool
is_literal_part part = list_all (λ b. nat_lt b 256 && not (b == 47)) part

abbrev pub is_part : List ℕ → Bool
is_part part = is_parameter part || is_literal_part part

module _ {T : Type 0} where
  abbrev pub added : Result Scan InsertError → T → RowsOf (RouteOf T) → RowsOf (RouteOf T)
  added (Ok s) value rows = placed (s.pattern, route_from s value) rows
  added (Err e) value rows = rows

  -- the rows with these routes added, in turn
  abbrev pub rows_with : List (List ℕ × T) → RowsOf (RouteOf T) → RowsOf (RouteOf T)
  rows_with [] rows = rows
  rows_with (r ∷ rest) rows = rows_with rest (added (parse_route r.0) r.1 rows)

  -- matchit reads a route as the tokens of its segments, and no path meets it and one of these rows
  abbrev pub is_new : Result Scan InsertError → List ℕ → RowsOf (RouteOf T) → Bool
  is_new (Ok s) route rows = bytes_eq s.pattern (tokens (segments route)) && list_all is_part (segments route) && apart_from s.pattern rows
  is_new (Err e) route rows = false

  abbrev pub are_new : List (List ℕ × T) → RowsOf (RouteOf T) → Bool
  are_new [] rows = true
  are_new (r ∷ rest) rows = is_new (parse_route r.0) r.0 rows && are_new rest (added (parse_route r.0) r.1 rows)

  -- the routes are words and whole-segment parameters, and no path meets two of them
  abbrev pub are_routes : List (List ℕ × T) → Bool
  are_routes table = are_new table [] && all_plain (rows_with table []) && all_apart (rows_with table [])
