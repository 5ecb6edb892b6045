-- What SELECT count(*) shows of a table.
use Rattle.sql_calls.proofs.Common.{◌≡◌, ℕ, suc, min, pos, List, [], ◌∷◌, map, filter, flat_map, length, Some, false, refl, sym, ap, subst, ◌∙◌, IsPermutation}
use Rattle.sql_calls.proofs.Common.{list_all, AllZip, length-map, length_permutation, Value, Null, Int, Binary, Trees, Env, lit, col, holds, Query, IsAnswer}
use Rattle.sql_calls.proofs.Common.{Output, output, page, overlay, one_permutation, IsHeldBy, arith}
use Rattle.sqlite_value.specs.Order.{Row}
use Rattle.sqlite_sql.specs.Group.{Aggregate, Grouping, Summarizes, IsSummary, value_over}
use Rattle.sqlite_sql.specs.declared.aggregate.AggregateOp.TheVariants.{CountRows}
use Rattle.sql_calls.proofs.KeyedRows.{risen, shown_alike}
use Rattle.sql_calls.proofs.Selects.{simple, matched, no_overlay}

abbrev counting : Aggregate
counting = record { op = CountRows; distinct = false; collation = Binary; argument = lit Null }

abbrev count_all : Grouping
count_all = record { keys = []; collations = []; aggregates = counting ∷ []; having = [] }

-- SELECT count(*) FROM table
abbrev pub count_query : ℕ → Query
count_query tree = record (simple tree [] (col 1 0 ∷ [])) { group = Some count_all }

abbrev counted : List Env → Value
counted envs = Int (pos (min (length envs) 9223372036854775807))

one_value : (order : List Env) (values : Row) → AllZip (λ a v. value_over order a ≡ Some v) (counting ∷ []) values → values ≡ counted order ∷ []
one_value order [] h = absurd h
one_value order (v ∷ []) h = grind (arith, length-map)
one_value order (v ∷ w ∷ more) h = absurd h.1

one_summary : (order : List Env) (rows : List Row) → AllZip (IsSummary count_all) (order ∷ []) rows → rows ≡ (counted order ∷ []) ∷ []
one_summary order rows h = grind (arith, one_value)

all_matched : (params : Row) (rows : List Row) → length (flat_map (matched [] params) rows) ≡ length rows
all_matched params [] = refl
all_matched params (r ∷ rows) = ap suc (all_matched params rows)

-- one row with the number of rows, which SQLite keeps below 2^63
pub count_rows : (tree : ℕ) (params : Row) (db : Trees) (rows : List Row) → IsAnswer (count_query tree) (overlay db []) params rows
    → rows ≡ (Int (pos (min (length (db tree)) 9223372036854775807)) ∷ []) ∷ []
count_rows tree params db rows a =
    let summed : Summarizes count_all params (flat_map (matched [] params) (overlay db [] tree)) a.staged = a.grouped in
    let order = summed.grouping.0 in
    let size : length order ≡ length (db tree) = length_permutation _ order summed.grouping.1 ∙ all_matched params (overlay db [] tree)
    ∙ ap length (no_overlay db tree) in
    let summary = one_summary order summed.rows (subst (λ gs. AllZip (IsSummary count_all) gs summed.rows) summed.grouping.2 summed.summaries) in
    let staged : a.staged ≡ (params ∷ (counted order ∷ []) ∷ []) ∷ [] = summed.having
    ∙ ap (λ rs. filter (λ env. list_all (holds env) []) (map (λ r. params ∷ r ∷ []) rs)) summary in
    let o : Output = ([], counted order ∷ []) in
    let kept : a.kept ≡ o ∷ [] = a.distinct ∙ ap (map (output (count_query tree))) staged in
    let ordered = one_permutation o a.ordered (subst (λ k. IsPermutation k a.ordered) kept a.same) in
    let shown : rows ≡ (counted order ∷ []) ∷ [] = a.shown ∙ ap (λ xs. page (count_query tree) params (map (λ (p : Output). p.1) xs)) ordered in
    shown ∙ ap (λ n. (Int (pos (min n 9223372036854775807)) ∷ []) ∷ []) size

-- ---- a table that has these contents

pub length_held : (rows wanted : List Row) → IsHeldBy rows wanted → length rows ≡ length wanted
length_held rows wanted h =
    let alike = shown_alike {A = ℕ} (λ _. 0) (λ id x. refl) (risen 1 rows h.order h.rising) in
    sym (length-map rows (λ _. 0)) ∙ ap length alike ∙ length-map h.order (λ _. 0) ∙ length_permutation wanted h.order h.same
