-- What LAST_ROLLOUT shows, whatever rows the table of rollouts has.
use Rattle.desk_records.proofs.Common.{all_of, filter_all, ◌≡◌, ◌≤◌, inl, inr, ℕ, pos, true, false, List, [], ◌∷◌, map, filter, take, Option, Some, None, refl}
use Rattle.desk_records.proofs.Common.{Shows, sym, ap, subst, ◌∙◌, arith, Ordering, Equal, is_eq, IsPermutation, is_lt, ints, nat_tests, IsPermutation-sym}
use Rattle.desk_records.proofs.Common.{ranks_by, sorted_far, Value, Null, Int, Row, column, value_cmp, value_cmp-Int, value_cmp_total, then-Equal, rowid}
use Rattle.desk_records.proofs.Common.{Database, Query, Output, output_cmp, col, output_cmp_total, Has, contains_had, ShowsFirst, IsOrdered, ordered_rows}
use Rattle.desk_records.proofs.Common.{passes, shown_in, IsLastNumber, IsLastRow, Rollouts, HoldsTables, Tables}
use Rattle.desk_records.proofs.Membership.{has_mapped, has_permuted, map_has}
use Rattle.desk_records.proofs.NumberColumns.{has_own_number}
use Rattle.desk_records.proofs.MeaningWords.{selects, greatest_number}

-- ---- the greatest number

equal : (o : Ordering) → is_eq o ≡ true → o ≡ Equal
equal o h = grind arith

-- a value that is below no row's number is at least the number
at_least : (v : Value) (n last : ℕ) → is_eq (value_cmp v (Int (pos n))) ≡ true → is_lt (value_cmp (Int (pos last)) v) ≡ false → n ≤ last
at_least v n last numbered least =
    let turned = value_cmp_total.congr v (Int (pos n)) (Int (pos last)) (equal _ numbered) in
    grind (arith, ints, nat_tests, value_cmp_total.antisymm, turned, value_cmp-Int, least)

module _ (db : Database) (t : Tables) (holds : HoldsTables db t) (names : List (List ℕ)) where
  abbrev tree : ℕ
  tree = (holds.spot Rollouts).tree

  abbrev q : Query
  q = greatest_number tree

  module _ (shown : List Row) (shows : Shows (selects (q) names) db [] shown) where
    it : IsOrdered q [] (filter (passes [] []) (db.trees tree)) shown
    it = ordered_rows tree [] (col 1 0 ∷ []) q.order q.limit q.offset [] db.trees shown (shows.answer Null)

    same : IsPermutation (map (shown_in q []) (t Rollouts)) it.ordered
    same = subst (λ l. IsPermutation (map (shown_in q []) l) it.ordered) (filter_all _ _ (all_of _ (λ x. refl) (db.trees tree)) ∙ sym (holds.rows Rollouts))
        it.same

    is_ordered : (row : Row) → Has (t Rollouts) row → Has it.ordered (shown_in q [] row)
    is_ordered row among = has_permuted _ _ _ same (map_has (shown_in q []) (t Rollouts) row among)

    from_ordered : (o : Output) → Has it.ordered o → (row : Row) × Has (t Rollouts) row × (o ≡ shown_in q [] row)
    from_ordered o among = has_mapped (shown_in q []) (t Rollouts) o (has_permuted _ _ o (IsPermutation-sym _ _ same) among)

    -- none before the first one
    least : (first : Output) (rest : List Output) → it.ordered ≡ first ∷ rest → (row : Row) → Has (t Rollouts) row
        → is_lt (output_cmp q (shown_in q [] row) first) ≡ false
    least first rest is row among =
        let at = contains_had it.ordered (shown_in q [] row) (is_ordered row among) in
        let far = sorted_far (λ a b. is_lt (output_cmp q a b)) (ranks_by (output_cmp_total q) (λ o. o)) it.ordered it.sorted 0 at.0 (shown_in q [] row)
        (omega arith) at.1 in
        grind (arith, far, at.2, is)

    pub shown_last : (row : Row) (tail : List Row) → shown ≡ row ∷ tail → (n : ℕ) → column row 0 ≡ Int (pos n) → IsLastNumber (t Rollouts) n
    shown_last row tail is n number = go it.ordered refl (sym is ∙ it.is)
      where
        go : (os : List Output) → it.ordered ≡ os → row ∷ tail ≡ take 1 (map (λ (o : Output). o.1) os) → IsLastNumber (t Rollouts) n
        go [] ordered e = absurd cc
        go (o ∷ rest) ordered e =
            let source = from_ordered o (subst (λ l. Has l o) (sym ordered) (inl refl)) in
            let head : row ≡ o.1 = cc in
            let its : rowid source.0 ≡ Int (pos n) = grind (arith, source.2, head, number, column) in
            let above : (other : Row) → Has (t Rollouts) other → is_lt (value_cmp (Int (pos n)) (rowid other)) ≡ false = λ other among.
            let told : is_lt (value_cmp (rowid source.0) (rowid other)) ≡ false = grind (arith, source.2, least o rest ordered other among, then-Equal) in
            rw its at told in
            record {
              greatest = λ k has. at_least (rowid has.row) k n has.numbered (above has.row has.among);
              there = inr (record { row = source.0; among = source.1; numbered = ap (λ v. is_eq (value_cmp v (Int (pos n)))) its ∙ has_own_number n [] });
            }

    pub shown_none : shown ≡ [] → IsLastNumber (t Rollouts) 0
    shown_none is = record { greatest = λ k has. absurd (go it.ordered refl (sym is ∙ it.is) _ (is_ordered has.row has.among)); there = inl refl }
      where
        go : (os : List Output) → it.ordered ≡ os → [] ≡ take 1 (map (λ (o : Output). o.1) os) → (o : Output) → Has it.ordered o → ⊥
        go [] ordered e o among = subst (λ l. Has l o) ordered among
        go (p ∷ rest) ordered e o among = absurd cc

  pub lasts_any : (row : Option Row) → ShowsFirst (selects (q) names) db [] row → (n : ℕ) → IsLastRow n row → IsLastNumber (t Rollouts) n
  lasts_any None shows n is = subst (IsLastNumber (t Rollouts)) (sym is) (shown_none [] shows refl)
  lasts_any (Some row) shows n is = shown_last (row ∷ shows.0) shows.1 row shows.0 refl n is
