-- What a statement on one table shows, whatever rows the table has: those that pass, in its order.
use Rattle.desk_records.proofs.Common.{◌≡◌, inl, ◌≤◌, ◌<◌, ℕ, ◌+◌, ◌&&◌, pos, Bool, true, false, List, [], ◌∷◌, map, filter, length, get_or, refl, sym, ap}
use Rattle.desk_records.proofs.Common.{subst, ◌∙◌, arith, IsPermutation, AllZip, list_all, is_lt, nat_tests, length-map, Contains-get_or, length_permutation}
use Rattle.desk_records.proofs.Common.{IsPermutation-sym, IsNonDecreasingBy-from_all_adjacent, Int, Row, column, value_cmp-Int, then-Equal, Binary, Query}
use Rattle.desk_records.proofs.Common.{IsAnswer, Output, output_cmp, page, Term, col, Trees, overlay, Has, has_contained, has_filtered, has_kept, fails_has}
use Rattle.desk_records.proofs.Common.{simple, by, passes, shown_of, shown_in, ordered_rows, IsOrdered, AreBroken, AreSaid, IsOnly}
use Rattle.std.specs.List.Sorted.{IsNonDecreasingBy}
use Rattle.sqlite_value.specs.declared.keys.Key.{Key}
use Rattle.desk_records.proofs.Membership.{has_alone, has_mapped, has_permuted, map_has, mapped_at, mapped_pass, both_pass, permuted_pass, same_kept, zip_at}
use Rattle.desk_records.proofs.Membership.{zip_left, zip_length, zip_right}

module _ (tree : ℕ) (test columns : List Term) (order : List (Term × Key)) (limit offset : Term) (params : Row) (db : Trees) (rows : List Row)
    (are : rows ≡ db tree)
    (whole : (xs : List Row) → page (by (simple tree test columns) order limit offset) params xs ≡ xs) (p : Row → Bool)
    (judged : (row : Row) → Has rows row → passes test params row ≡ p row)
    (shown : List Row) (answer : IsAnswer (by (simple tree test columns) order limit offset) (overlay db []) params shown) where
  abbrev q : Query
  q = by (simple tree test columns) order limit offset

  abbrev its : List Row
  its = filter p rows

  it : IsOrdered q params (filter (passes test params) (db tree)) shown
  it = ordered_rows tree test columns order limit offset params db shown answer

  kept : filter (passes test params) (db tree) ≡ its
  kept = ap (filter (passes test params)) (sym are) ∙ same_kept (passes test params) p rows judged

  same : IsPermutation (map (shown_in q params) its) it.ordered
  same = subst (λ l. IsPermutation (map (shown_in q params) l) it.ordered) kept it.same

  shown_is : shown ≡ map (λ (o : Output). o.1) it.ordered
  shown_is = it.is ∙ whole (map (λ (o : Output). o.1) it.ordered)

  -- a row that passes, as it is shown
  pub record IsFrom (o : Output) : Type 0 where
    pub row : Row
    pub among : Has rows row
    pub passes_it : p row ≡ true
    pub shows : o ≡ shown_in q params row

  from_ordered : (o : Output) → Has it.ordered o → IsFrom o
  from_ordered o among =
      let source = has_mapped (shown_in q params) its o (has_permuted _ _ o (IsPermutation-sym _ _ same) among) in
      let kept_one = has_filtered p rows source.0 source.1 in
      record { row = source.0; among = kept_one.0; passes_it = kept_one.1; shows = source.2 }

  pub from_shown : (x : Row) → Has shown x → (row : Row) × Has rows row × (p row ≡ true) × (x ≡ shown_of columns params row)
  from_shown x among =
      let source = has_mapped (λ (o : Output). o.1) it.ordered x (subst (λ l. Has l x) shown_is among) in
      let o = from_ordered source.0 source.1 in
      (o.row, o.among, o.passes_it, source.2 ∙ ap (λ (y : Output). y.1) o.shows)

  pub is_shown : (row : Row) → Has rows row → p row ≡ true → Has shown (shown_of columns params row)
  is_shown row among passes_it =
      subst (λ l. Has l (shown_of columns params row)) (sym shown_is)
      (map_has (λ (o : Output). o.1) it.ordered (shown_in q params row)
      (has_permuted _ _ _ same (map_has (shown_in q params) its row (has_kept p rows row among passes_it))))

  pub count_shown : length shown ≡ length its
  count_shown = ap length shown_is ∙ length-map it.ordered (λ (o : Output). o.1) ∙ length_permutation _ _ same ∙ length-map its (shown_in q params)

  -- as many of them pass another test as rows do
  pub tested_shown : (test : Row → Bool) → length (filter test shown) ≡ length (filter (λ row. p row && test (shown_of columns params row)) rows)
  tested_shown test = grind (arith, shown_is, mapped_pass, permuted_pass (λ (o : Output). test o.1) _ _ same, both_pass)

  -- ---- what is read of the only one

  module _ {A : Type 0} (is : Row → A → Type 0) (says : Row → A → Type 0) (means : (row : Row) → Has rows row → p row ≡ true → (a : A)
      → is (shown_of columns params row) a → says row a)
      (x : Row) (alone : shown ≡ x ∷ []) (a : A) (reads : is x a) where
    each_says : (row : Row) → Has rows row → p row ≡ true → says row a
    each_says row among passes_it = grind (arith, has_alone, is_shown)

    pub is_only : IsOnly rows p says a
    is_only =
        let from = from_shown x (subst (λ l. Has l x) (sym alone) (inl refl)) in
        record { said = record { row = from.0; among = from.1; passes = from.2; is = each_says from.0 from.1 from.2 }; each = each_says }

  -- where none is shown
  pub none_passes : shown ≡ [] → (row : Row) → Has rows row → p row ≡ true → ⊥
  none_passes none row among passes_it = subst (λ l. Has l (shown_of columns params row)) none (is_shown row among passes_it)

  -- ---- what is read of them

  module _ {A : Type 0} (is : Row → A → Type 0) (says : Row → A → Type 0) (means : (row : Row) → Has rows row → p row ≡ true → (a : A)
      → is (shown_of columns params row) a → says row a)
      (found : List A) (reads : AllZip is shown found) where
    pub are_said : AreSaid rows p says found
    are_said = record {
      sound = λ a among.
          let x = zip_right is shown found a reads among in
          let from = from_shown x.0 x.1 in
          record { row = from.0; among = from.1; passes = from.2; is = means from.0 from.1 from.2 a (subst (λ y. is y a) from.3 x.2) };
      complete = λ row among passes_it.
          let a = zip_left is shown found _ reads (is_shown row among passes_it) in
          record { one = a.0; among = a.1; is = means row among passes_it a.0 a.2 };
      count = zip_length is shown found reads ∙ count_shown;
    }

    -- in the order of a number
    module _ (key : A → ℕ) (in_order : (low high : Row) (a b : A) → says low a → says high b
        → is_lt (output_cmp q (shown_in q params high) (shown_in q params low)) ≡ false → key a ≤ key b) where
      counts : length found ≡ length it.ordered
      counts = zip_length is shown found reads ∙ ap length shown_is ∙ length-map it.ordered (λ (o : Output). o.1)

      abbrev none : Output
      none = ([], [])

      from_place : (k : ℕ) → k < length it.ordered → IsFrom (get_or it.ordered k none)
      from_place k within = from_ordered _ (has_contained it.ordered _ (Contains-get_or it.ordered k none within))

      said_at : (k : ℕ) (d : A) → k < length found → (within : k < length it.ordered) → says (from_place k within).row (get_or found k d)
      said_at k d few within =
          let from = from_place k within in
          let first : is (get_or shown k []) (get_or found k d) = zip_at is shown found k [] d reads (omega (arith, few, zip_length is shown found reads)) in
          let at : get_or shown k [] ≡ (get_or it.ordered k none).1 = grind (arith, shown_is, mapped_at (λ (o : Output). o.1) it.ordered k none) in
          means from.row from.among from.passes_it (get_or found k d) (grind (arith, first, at, from.shows))

      adjacent : (k : ℕ) (d : A) → k + 1 < length found → key (get_or found k d) ≤ key (get_or found (k + 1) d)
      adjacent k d few =
          let low : k < length it.ordered = omega (arith, few, counts) in
          let high : k + 1 < length it.ordered = omega (arith, few, counts) in
          let up = it.sorted k none (omega arith) high in
          in_order (from_place k low).row (from_place (k + 1) high).row (get_or found k d) (get_or found (k + 1) d) (said_at k d (omega (arith, few)) low)
          (said_at (k + 1) d few high) (grind (arith, up, (from_place k low).shows, (from_place (k + 1) high).shows))

      pub rise : IsNonDecreasingBy key found
      rise = IsNonDecreasingBy-from_all_adjacent key found adjacent

  -- one that breaks a rule
  pub broken : {A : Type 0} (says : Row → A → Type 0) (keeps : Row → Bool)
      → ((row : Row) → Has rows row → (a : A) → says row a → keeps (shown_of columns params row) ≡ true) → list_all keeps shown ≡ false → AreBroken rows p says
  broken says keeps kept_by fails = grind (arith, fails_has, from_shown)

-- the order of a column with numbers
pub number_order : (tree : ℕ) (test columns : List Term) (limit offset : Term) (params : Row) (place : ℕ) (low high : Row) (m n : ℕ) → column low place
    ≡ Int (pos m) → column high place ≡ Int (pos n)
    → (let q = by (simple tree test columns) ((col 1 place, record { descending = false; collation = Binary }) ∷ []) limit offset in
    is_lt (output_cmp q (shown_in q params high) (shown_in q params low)) ≡ false) → m ≤ n
number_order tree test columns limit offset params place low high m n is_m is_n up = grind (arith, is_lt, column, then-Equal, value_cmp-Int, nat_tests)
