-- What a SELECT over a table whose k-th row has number k shows, where WHERE asks whether a second table has a row.
use Rattle.sql_calls.proofs.Common.{◌≡◌, ◌<◌, ℕ, min, pos, List, [], ◌∷◌, length, map, filter, flat_map, Bool, false, cond, ◌||◌, refl}
use Rattle.sql_calls.proofs.Common.{sym, ap, ap₂, subst, ◌∙◌, arith, Less, IsPermutation, list_all, list_any, list_any-IsPermutation, Int, rowid, Trees, Term}
use Rattle.sql_calls.proofs.Common.{Env, eval_all, holds, Query, Output, inner, counted, end, output, output_cmp, page, IsAnswer, overlay, is_true}
use Rattle.sql_calls.proofs.Common.{output_cmp_total, sorted_unique, map-map, IsHeldBy, rows_from}
use Rattle.sqlite_value.specs.Order.{Row}
use Rattle.sql_calls.proofs.KeyedRows.{IsBlind, Rises, none, one, on_content, ids_less, risen}
use Rattle.sql_calls.proofs.NumberedTables.{number_query, rises}
use Rattle.sql_calls.proofs.Selects.{no_overlay}

-- ---- a row of the second table

-- the rows of these beside a row, each an environment of the parameters and the two
abbrev pub beside : List Term → Row → Row → List Row → List Env
beside inside params r rows = flat_map (λ g. cond (list_all (holds (params ∷ r ∷ g ∷ [])) inside) ((params ∷ r ∷ g ∷ []) ∷ []) []) rows

abbrev pub is_beside : List Term → Row → Row → Row → Bool
is_beside inside params r g = list_all (holds (params ∷ r ∷ g ∷ [])) inside

-- the count of them, as far as one, tells whether there is any
pub counts_any : (inside : List Term) (params r : Row) (rows : List Row) → is_true (Int (pos (min 1 (length (beside inside params r rows)))))
    ≡ list_any (is_beside inside params r) rows
counts_any inside params r [] = refl
counts_any inside params r (g ∷ rows) = grind (arith, counts_any inside params r rows, length, is_true, cond, false)

-- of a test that doesn't see the rowid
module _ (p : Row → Bool) (blind : IsBlind p) where
  any_in : {k : ℕ} {rows xs : List Row} → Rises k rows xs → list_any p rows ≡ list_any (on_content p) xs
  any_in none = refl
  any_in (one n x rows xs from h) = ap₂ ◌||◌ (blind _ x) (any_in h)

  -- whether a row passes doesn't depend on the order in which the rows are held
  pub held_any : (rows wanted : List Row) → IsHeldBy rows wanted → list_any p rows ≡ list_any (on_content p) wanted
  held_any rows wanted h = any_in (risen 1 rows h.order h.rising) ∙ sym (list_any-IsPermutation (on_content p) wanted h.order h.same)

-- ---- the query

-- SELECT .. FROM the table WHERE .. AND EXISTS (SELECT 1 FROM the other WHERE ..) ORDER BY number LIMIT .. OFFSET ..
module _ {X : Type 0} (f : ℕ → X → Row) (ids : (n : ℕ) (x : X) → rowid (f n x) ≡ Int (pos n)) (tree other : ℕ) (inside test shows : List Term)
    (limit offset : Term) where
  abbrev pub within_query : Query
  within_query = record (number_query f ids tree test shows limit offset) { from = inner tree (counted 1 (inner other end) inside end) }

  module _ (params : Row) (rows : List Row) where
    -- a row, and whether there is any beside it
    abbrev pub seen : Row → Env
    seen r = params ∷ r ∷ (Int (pos (min 1 (length (beside inside params r rows)))) ∷ []) ∷ []

    abbrev pub passes_within : Row → Bool
    passes_within r = list_all (holds (seen r)) test

    abbrev show : Row → Output
    show r = output within_query (seen r)

    abbrev staged : Row → List Env
    staged r = cond (passes_within r) (seen r ∷ []) []

    outputs : (xs : List Row) → map (output within_query) (flat_map staged xs) ≡ map show (filter passes_within xs)
    outputs [] = refl
    outputs (r ∷ xs) = grind (arith, outputs xs)

    below : (m n : ℕ) (x y : X) → m < n → output_cmp within_query (show (f m x)) (show (f n y)) ≡ Less
    below m n x y h = rw (ids m x, ids n y, ids_less m n h) refl

  pub within_in_order : (params : Row) (db : Trees) (xs : List X) → db tree ≡ rows_from f 1 xs → (rows : List Row)
      → IsAnswer within_query (overlay db []) params rows
      → rows ≡ page within_query params (map (λ r. eval_all shows (seen params (db other) r)) (filter (passes_within params (db other)) (rows_from f 1 xs)))
  within_in_order params db xs was rows a =
      let there = db other in
      let on : a.staged ≡ flat_map (staged params there) (rows_from f 1 xs) = a.grouped
      ∙ rw (no_overlay db tree, no_overlay db other) (ap (flat_map (staged params there)) was) in
      let kept : a.kept ≡ map (show params there) (filter (passes_within params there) (rows_from f 1 xs)) = a.distinct ∙ ap (map (output within_query)) on
      ∙ outputs params there (rows_from f 1 xs) in
      let same = subst (λ l. IsPermutation l a.ordered) kept a.same in
      a.shown ∙ ap (λ l. page within_query params (map (λ (o : Output). o.1) l))
      (sorted_unique (output_cmp within_query) (output_cmp_total within_query) _ a.ordered
      (rises f (output_cmp within_query) (show params there) (passes_within params there) (below params there) 1 xs) same a.sorted)
      ∙ ap (page within_query params) (map-map (λ (o : Output). o.1) (show params there) _)
