-- What a query over one table answers, for any schema.
use Rattle.sql_calls.proofs.Common.{IsAscending, Less, sorted_unique, output_cmp_total, IsPermutation-trans, [], ◌≡◌, ℕ, ◌-◌, ◌^◌, pos, negsuc, List, ◌∷◌, map}
use Rattle.sql_calls.proofs.Common.{slice_get, flat_map, filter, Bool, true, false, cond, None, refl, sym, ap, subst, ◌∙◌, nat_le, unwrap_or, list_all}
use Rattle.sql_calls.proofs.Common.{IsPermutation-map, Row, Trees, Term, Env, lit, eval_all, holds, Query, inner, end, IsAnswer, output, output_cmp, page}
use Rattle.sql_calls.proofs.Common.{Output, overlay, shown, Key, map-map, arith}
use Rattle.std.specs.List.Sorted.{IsPermutation, IsSorted}
use Rattle.sqlite.specs.declared.types.Value.TheVariants.{Int}

-- SELECT project FROM table WHERE filter
abbrev pub simple : ℕ → List Term → List Term → Query
simple tree test shown = record {
  from = inner tree end;
  filter = test;
  group = None;
  project = shown;
  distinct = false;
  collations = [];
  order = [];
  limit = lit (Int (negsuc 0));
  offset = lit (Int (pos 0));
}

abbrev pub passes : List Term → Row → Row → Bool
passes test params r = list_all (holds (params ∷ r ∷ [])) test

abbrev pub shown_of : List Term → Row → Row → Row
shown_of shown params r = eval_all shown (params ∷ r ∷ [])

abbrev pub matched : List Term → Row → Row → List Env
matched test params r = cond (passes test params r) ((params ∷ r ∷ []) ∷ []) []

pub no_overlay : (db : Trees) (t : ℕ) → overlay db [] t ≡ db t
no_overlay db t = elim (nat_le (2 ^ 31) t) as (λ b. unwrap_or (cond b (slice_get [] (t - 2 ^ 31)) None) (db t) ≡ db t) [ true ↦ refl | false ↦ refl ]

-- ---- in an order

abbrev pub by : Query → List (Term × Key) → Term → Term → Query
by q order limit offset = record q { order = order; limit = limit; offset = offset }

abbrev pub shown_in : Query → Row → Row → Output
shown_in q params r = output q (params ∷ r ∷ [])

outputs_in : (q : Query) (test : List Term) (params : Row) (rows : List Row) → map (output q) (flat_map (matched test params) rows)
    ≡ map (shown_in q params) (filter (passes test params) rows)
outputs_in q test params [] = refl
outputs_in q test params (r ∷ rows) = grind (arith, outputs_in q test params rows)

pub record IsOrdered (q : Query) (params : Row) (found : List Row) (rows : List Row) : Type 0 where
  pub ordered : List Output
  pub same : IsPermutation (map (shown_in q params) found) ordered
  pub sorted : IsSorted (output_cmp q) ordered
  pub is : rows ≡ page q params (map (λ o. o.1) ordered)

-- the rows of the table that pass, in the order, and then the page of them
pub ordered_rows : (tree : ℕ) (test shown : List Term) (order : List (Term × Key)) (limit offset : Term) (params : Row) (db : Trees) (rows : List Row)
    → IsAnswer (by (simple tree test shown) order limit offset) (overlay db []) params rows → IsOrdered (by (simple tree test shown) order limit offset) params
    (filter (passes test params) (db tree)) rows
ordered_rows tree test shown order limit offset params db rows a =
    let q = by (simple tree test shown) order limit offset in
    let staged : a.staged ≡ flat_map (matched test params) (db tree) = a.grouped ∙ ap (flat_map (matched test params)) (no_overlay db tree) in
    let kept : a.kept ≡ map (shown_in q params) (filter (passes test params) (db tree)) = a.distinct ∙ ap (map (output q)) staged
    ∙ outputs_in q test params (db tree) in
    record { ordered = a.ordered; same = subst (λ xs. IsPermutation xs a.ordered) kept a.same; sorted = a.sorted; is = a.shown }

-- where what passes rises as the query shows it, the rows come so
pub rises_to : (tree : ℕ) (test shown : List Term) (order : List (Term × Key)) (limit offset : Term) (params : Row) (db : Trees) (rows : List Row)
    → IsAnswer (by (simple tree test shown) order limit offset) (overlay db []) params rows → (wanted : List Output)
    → IsPermutation wanted (map (shown_in (by (simple tree test shown) order limit offset) params) (filter (passes test params) (db tree)))
    → IsAscending (λ a b. output_cmp (by (simple tree test shown) order limit offset) a b ≡ Less) wanted
    → rows ≡ page (by (simple tree test shown) order limit offset) params (map (λ o. o.1) wanted)
rises_to tree test shown order limit offset params db rows answer wanted same up =
    let q = by (simple tree test shown) order limit offset in
    let it = ordered_rows tree test shown order limit offset params db rows answer in
    it.is ∙ ap (λ l. page q params (map (λ (o : Output). o.1) l))
    (sorted_unique (output_cmp q) (output_cmp_total q) wanted it.ordered up (IsPermutation-trans _ _ _ same it.same) it.sorted)

-- ---- in no order

-- the rows of the table that pass, as the query shows them, in some order
pub simple_rows : (tree : ℕ) (test shown : List Term) (params : Row) (db : Trees) (rows : List Row)
    → IsAnswer (simple tree test shown) (overlay db []) params rows
    → IsPermutation (map (shown_of shown params) (filter (passes test params) (db tree))) rows
simple_rows tree test shown params db rows a =
    let it = ordered_rows tree test shown [] (lit (Int (negsuc 0))) (lit (Int (pos 0))) params db rows a in
    let same = IsPermutation-map (λ (o : Output). o.1) _ it.ordered it.same in
    subst (λ l. IsPermutation l rows) (map-map (λ (o : Output). o.1) (shown_in (simple tree test shown) params) _)
    (subst (IsPermutation _) (sym it.is) same)
