-- Trees list one schema alone.
use Rattle.sql_calls.proofs.Common.{◌≡◌, true, false, filter, slice_get, Some, List, [], ◌∷◌, Ok, sym, ap, subst, ◌∙◌, arith, AllZip, Value, Null, Int, Real}
use Rattle.sql_calls.proofs.Common.{Text, Blob, Trees, Schema, Table, Index, IsAscending, IsSound, IsTableRow, IsIndexRow, IsDefined, automatic, is_index_row}
use Rattle.sqlite_value.specs.Order.{Row}
use Rattle.sqlite_schema.specs.Names.{same_name}
use Rattle.sqlite_trees.specs.Objects.{catalog_tree}
use Rattle.sqlite_catalog.proofs.StepLemmas.{same_itself, named_once}
use Rattle.sqlite_catalog.proofs.AlterLemmas.{numbers_differ}

zip_same : {A B : Type 0} (R : A → B → Type 0) → ((a : A) (x y : B) → R a x → R a y → x ≡ y) → (rs : List A) (xs ys : List B) → AllZip R rs xs → AllZip R rs ys
    → xs ≡ ys
zip_same R one [] xs ys h k = grind arith
zip_same R one (a ∷ rs) [] ys h k = absurd h
zip_same R one (a ∷ rs) (x ∷ xs) [] h k = absurd k
zip_same R one (a ∷ rs) (x ∷ xs) (y ∷ ys) h k = let same = one a x y h.0 k.0 in let more = zip_same R one rs xs ys h.1 k.1 in cc

one_table : (row : Row) (s t : Table) → IsTableRow row s → IsTableRow row t → s ≡ t
one_table row s t h k = grind arith

-- ---- indexes

one_defined : (t : Table) (i j : Index) (sql : Value) → i.name ≡ j.name → i.tree ≡ j.tree → IsDefined t i sql → IsDefined t j sql → i ≡ j
one_defined t i j Null names trees h k =
    let first : i.name ≡ (automatic t h.0 [] 0).name = ap (λ (x : Index). x.name) h.3 in
    let second : j.name ≡ (automatic t k.0 [] 0).name = ap (λ (x : Index). x.name) k.3 in
    let alike : same_name (automatic t h.0 [] 0).name (automatic t k.0 [] 0).name ≡ true =
    ap (λ x. same_name x (automatic t k.0 [] 0).name) (sym first ∙ names ∙ second) ∙ same_itself (automatic t k.0 [] 0).name in
    let places : h.0 ≡ k.0 = numbers_differ t h.0 k.0 h.4 k.4 alike in
    let keys : Some h.1 ≡ Some k.1 = sym h.2 ∙ ap (slice_get t.uniques) places ∙ k.2 in
    let key : h.1 ≡ k.1 = cc in
    h.3 ∙ ap (λ n. automatic t n h.1 i.tree) places ∙ ap (λ x. automatic t k.0 x i.tree) key ∙ ap (automatic t k.0 k.1) trees ∙ sym k.3
one_defined t i j (Int n) names trees h k = absurd h
one_defined t i j (Real x) names trees h k = absurd h
one_defined t i j (Text sql) names trees h k =
    let made : Ok h.0 ≡ Ok k.0 = sym h.1 ∙ k.1 in
    let same : h.0 ≡ k.0 = cc in
    h.2 ∙ ap (λ (m : Index). record m { tree = i.tree; table = t.tree }) same ∙ ap (λ n. let it : Index = record k.0 { tree = n; table = t.tree } in it) trees
    ∙ sym k.2
one_defined t i j (Blob b) names trees h k = absurd h

one_index : (tables : List Table) → IsAscending (λ (a b : Table). same_name a.name b.name ≡ false) tables → (row : Row) (i j : Index) → IsIndexRow tables row i
    → IsIndexRow tables row j → i ≡ j
one_index tables named row i j h k = grind (arith, named_once, same_itself, one_defined)

-- ---- schemas

pub same_tables : (s z : Schema) (db : Trees) → IsSound s db → IsSound z db → s.tables ≡ z.tables
same_tables s z db h k = zip_same IsTableRow one_table _ s.tables z.tables h.lists.listed.tables k.lists.listed.tables

pub same_indexes : (s z : Schema) (db : Trees) → IsSound s db → IsSound z db → s.indexes ≡ z.indexes
same_indexes s z db h k =
    let mine = k.lists.listed in
    let found = subst (λ ts. AllZip (IsIndexRow ts) (filter is_index_row (db catalog_tree)) s.indexes) (same_tables s z db h k) h.lists.listed.indexes in
    zip_same (IsIndexRow z.tables) (one_index z.tables mine.named) _ s.indexes z.indexes found mine.indexes
