-- The rows that were made of a table lead where the table does.
use native.Mathlib.Omega.{arith}
use Rattle.request_target.proofs.Common.{◌≡◌, ℕ, List, [], ◌∷◌, Bool, true, cond, ◌&&◌, Option, Some, None, option_map, Result, Ok, Err, refl, pointwise}
use Rattle.request_target.proofs.Common.{stands_for}
use Rattle.request_target.proofs.Common.{sym, ◌∙◌, ap, bytes_eq, false≢true, list_all, RowsOf, first, segments, route_in}
use Rattle.request_target.proofs.Common.{apart_from, tokens, is_part, added, rows_with, is_new, are_new, are_routes}
use Rattle.std.proofs.lemmas.Slice.Eq.{bytes_eq-Decides}
use Rattle.matchit.specs.Route.{Scan, parse_route}
use Rattle.matchit.specs.Router.{RouteOf, route_from}
use Rattle.matchit.specs.Order.{placed}
use Rattle.matchit.specs.declared.error.InsertError.{InsertError}
use Rattle.request_target.proofs.Meets.{meets, all_bytes, met_row}
use Rattle.request_target.proofs.Longest.{both}
use Rattle.request_target.proofs.Apart.{not_both, first_is}
use Rattle.request_target.proofs.Segments.{meets_tokens}

-- the first of two answers
abbrev pub or_else : {T : Type 0} → Option T → Option T → Option T
or_else (Some t) other = Some t
or_else None other = other

or_else_none : {T : Type 0} (a : Option T) → or_else a None ≡ a
or_else_none a = grind arith

or_else_assoc : {T : Type 0} (a b c : Option T) → or_else (or_else a b) c ≡ or_else a (or_else b c)
or_else_assoc a b c = grind arith

-- an answer where the test is passed
abbrev pub only_if : {T : Type 0} → Bool → T → Option T
only_if v t = cond v (Some t) None

or_else_only_if : {T : Type 0} (v : Bool) (t : T) (rest : Option T) → or_else (only_if v t) rest ≡ cond v (Some t) rest
or_else_only_if v t rest = grind arith

-- no row that is apart from a pattern is met where the pattern is
met_row-apart : {K : Type 0} (t : List ℕ) (rs : RowsOf K) (path : List ℕ) → apart_from t rs ≡ true → meets t path ≡ true → met_row rs path ≡ None
met_row-apart t [] path new met = refl
met_row-apart {K} t ((u, l) ∷ rest) path new met = grind (arith, met_row-apart t rest path, not_both)

-- one more row, wherever it is placed, is met where none before it was
met_row-placed : {K : Type 0} (t : List ℕ) (k : K) (rs : RowsOf K) (path : List ℕ) → apart_from t rs ≡ true → met_row (placed (t, k) rs) path
    ≡ or_else (met_row rs path) (only_if (meets t path) k)
met_row-placed t k [] path new = refl
met_row-placed {K} t k ((u, l) ∷ rest) path new = grind (arith, met_row-placed t k rest path, not_both, met_row-apart, or_else_none)

-- what a route of these parts leads to
abbrev pub value_of : {T : Type 0} → Option (RouteOf T) → Option T
value_of found = option_map (λ r. r.value) found

value_of-or_else : {T : Type 0} (a : Option (RouteOf T)) (v : Bool) (r : RouteOf T) → value_of (or_else a (only_if v r))
    ≡ or_else (value_of a) (only_if v r.value)
value_of-or_else a v r = grind arith

abbrev IsNonempty : {A : Type 0} → List A → Type 0
IsNonempty [] = ⊥
IsNonempty (x ∷ xs) = Unit {0}

segments_some : (path : List ℕ) → IsNonempty (segments path)
segments_some [] = tt
segments_some (b ∷ path) = grind arith

same_bytes : (a b : List ℕ) → bytes_eq a b ≡ true → a ≡ b
same_bytes a b h = (bytes_eq-Decides a b).0 h

-- a path meets the tokens of a route where the segments fit
meets_route : (route path : List ℕ) → list_all is_part (segments route) ≡ true → meets (tokens (segments route)) path
    ≡ pointwise stands_for (segments route) (segments path)
meets_route route path ok = grind (arith, segments_some, meets_tokens)

-- a route that is added leads on from its own paths alone
added_leads : {T : Type 0} (read : Result Scan InsertError) (route : List ℕ) (value : T) (rows : RowsOf (RouteOf T)) (path : List ℕ) → is_new read route rows
    ≡ true
    → value_of (met_row (added read value rows) path)
    ≡ or_else (value_of (met_row rows path)) (only_if (pointwise stands_for (segments route) (segments path)) value)
added_leads (Err e) route value rows path new = absurd (false≢true new)
added_leads (Ok s) route value rows path new =
    let outer = both (bytes_eq s.pattern (tokens (segments route)) && list_all is_part (segments route)) (apart_from s.pattern rows) new in
    let inner = both (bytes_eq s.pattern (tokens (segments route))) (list_all is_part (segments route)) outer.0 in
    let pattern : s.pattern ≡ tokens (segments route) = same_bytes s.pattern (tokens (segments route)) inner.0 in
    let met : meets s.pattern path ≡ pointwise stands_for (segments route) (segments path) = ap (λ t. meets t path) pattern ∙ meets_route route path inner.1 in
    ap value_of (met_row-placed s.pattern (route_from s value) rows path outer.1)
    ∙ value_of-or_else (met_row rows path) (meets s.pattern path) (route_from s value)
    ∙ ap (λ v. or_else (value_of (met_row rows path)) (only_if v value)) met

-- so do all routes of a table
met_row-rows_with : {T : Type 0} (table : List (List ℕ × T)) (rows : RowsOf (RouteOf T)) (path : List ℕ) → are_new table rows ≡ true
    → value_of (met_row (rows_with table rows) path) ≡ or_else (value_of (met_row rows path)) (route_in table path)
met_row-rows_with [] rows path new = sym (or_else_none (value_of (met_row rows path)))
met_row-rows_with (r ∷ table) rows path new =
    let parts = both (is_new (parse_route r.0) r.0 rows) (are_new table (added (parse_route r.0) r.1 rows)) new in
    met_row-rows_with table (added (parse_route r.0) r.1 rows) path parts.1
    ∙ ap (λ found. or_else found (route_in table path)) (added_leads (parse_route r.0) r.0 r.1 rows path parts.0)
    ∙ or_else_assoc (value_of (met_row rows path)) (only_if (pointwise stands_for (segments r.0) (segments path)) r.1) (route_in table path)
    ∙ ap (or_else (value_of (met_row rows path))) (or_else_only_if (pointwise stands_for (segments r.0) (segments path)) r.1 (route_in table path))

-- what a router of this table finds
pub first-rows_with : {T : Type 0} (table : List (List ℕ × T)) (rows : RowsOf (RouteOf T)) (path : List ℕ) → all_bytes path ≡ true → are_routes table ≡ true
    → rows ≡ rows_with table [] → value_of (first rows path) ≡ route_in table path
first-rows_with table rows path bytes routes is = grind (arith, first_is, met_row-rows_with)
