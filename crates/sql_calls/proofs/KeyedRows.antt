-- What the statements on one key do to a table whose rowids nobody knows.
use Rattle.sql_calls.proofs.Common.{◌≡◌, ◌⊎◌, inl, inr, ◌≤◌, ◌<◌, ℕ, ℤ, ◌+◌, ◌+ℤ◌, pos, Bool, true, false, not, ◌||◌, ◌&&◌, cond, List, [], ◌∷◌, ◌++◌, map}
use Rattle.sql_calls.proofs.Common.{filter, fold, refl, sym, ap, ap₂, ◌∙◌, subst, arith, Less, Equal, Greater, IsPermutation, AllByRecursion, list_any, is_eq}
use Rattle.sql_calls.proofs.Common.{ints, or_parts, both_ways, nat_tests, IsPermutation-cons, IsPermutation-sym, IsPermutation-trans, IsPermutation-map}
use Rattle.sql_calls.proofs.Common.{IsPermutation-to_front, list_any-IsPermutation, Value, Null, Int, value_cmp, value_cmp-Int, rowid, has_rowid, put_row}
use Rattle.sql_calls.proofs.Common.{without_rowid, IsAscending, agree, clashes, differ, id_in, next_rowid, without_all, ids_of, filter_all, all_weaker, all_of}
use Rattle.sql_calls.proofs.Common.{and-true, Has, IsPermutation-filter, AreIn, IsHeldBy, all_from}
use Rattle.sqlite_value.specs.declared.keys.Order.{Order}
use Rattle.sqlite_value.specs.Order.{Row}
use Rattle.sqlite_sql.specs.Ops.{binary}
use Rattle.std.proofs.lemmas.Bool.{cond_both}
use Rattle.sqlite_keyed.proofs.ListLemmas.{all_both, all_map, all-filter, any_from_none, none_from_any, ascending-filter}
use Rattle.sqlite_rules.proofs.ListLemmas.{has_filtered}
use Rattle.sqlite_trees.proofs.ListLemmas.{filter_same}

pub ids_less : (m n : ℕ) → m < n → value_cmp (Int (pos m)) (Int (pos n)) ≡ Less
ids_less m n h = value_cmp-Int (pos m) (pos n) ∙ grind (arith, ints, nat_tests)

pub ids_same : (m : ℕ) → value_cmp (Int (pos m)) (Int (pos m)) ≡ Equal
ids_same m = value_cmp-Int (pos m) (pos m) ∙ grind (arith, ints, nat_tests)

pub ids_more : (m n : ℕ) → m < n → value_cmp (Int (pos n)) (Int (pos m)) ≡ Greater
ids_more m n h = value_cmp-Int (pos n) (pos m) ∙ grind (arith, ints, nat_tests)

-- The same as `AreIn`, for proofs by its clauses.
pub data Rises : ℕ → List Row → List Row → Type 0 where
  none : {k : ℕ} → Rises k [] []
  one : {k : ℕ} (n : ℕ) (x : Row) (rows xs : List Row) → k ≤ n → Rises (n + 1) rows xs → Rises k ((Int (pos n) ∷ x) ∷ rows) (x ∷ xs)

pub risen : (k : ℕ) (rows xs : List Row) → AreIn k rows xs → Rises k rows xs
risen k [] [] h = none
risen k [] (x ∷ xs) h = absurd h
risen k (r ∷ rows) [] h = absurd h
risen k (r ∷ rows) (x ∷ xs) h = subst (λ r. Rises k (r ∷ rows) (x ∷ xs)) (sym h.2) (one h.0 x rows xs h.1 (risen (h.0 + 1) rows xs h.3))

are_in : {k : ℕ} {rows xs : List Row} → Rises k rows xs → AreIn k rows xs
are_in none = tt
are_in (one n x rows xs from h) = (n, from, refl, are_in h)

lower : {j k : ℕ} {rows xs : List Row} → k ≤ j → Rises j rows xs → Rises k rows xs
lower low none = none
lower low (one n x rows xs from h) = one n x rows xs (omega arith) h

-- ---- rows past a number

abbrev pub IsPast : ℕ → Row → Type 0
IsPast m r = (n : ℕ) × (m < n) × (rowid r ≡ Int (pos n))

past : {k : ℕ} {rows xs : List Row} (m : ℕ) → m < k → Rises k rows xs → AllByRecursion (IsPast m) rows
past m low none = tt
past m low (one n x rows xs from h) = ((n, omega arith, refl), past m (omega arith) h)

module _ (m : ℕ) where
  pub over : (r : Row) → IsPast m r → value_cmp (rowid r) (Int (pos m)) ≡ Greater
  over r past = rw past.2 (ids_more m past.0 past.1)

  put_before : (new : Row) (rows : List Row) → rowid new ≡ Int (pos m) → AllByRecursion (IsPast m) rows → put_row new rows ≡ new ∷ rows
  put_before new [] is h = refl
  put_before new (r ∷ rows) is h = rw (is, over r h.0) refl

  -- in the place of the first row
  pub put_first : (new r : Row) (rows : List Row) → rowid new ≡ Int (pos m) → rowid r ≡ Int (pos m) → AllByRecursion (IsPast m) rows
      → put_row new (without_rowid (pos m) (r ∷ rows)) ≡ new ∷ rows
  put_first new r rows is same h = grind (arith, ids_same, filter_all, all_weaker, past, over, put_before)

  -- .. of a later one
  pub put_later : (n : ℕ) (new r : Row) (rows : List Row) → rowid new ≡ Int (pos m) → rowid r ≡ Int (pos n) → n < m
      → put_row new (without_rowid (pos m) (r ∷ rows)) ≡ r ∷ put_row new (without_rowid (pos m) rows)
  put_later n new r rows is at low = grind (arith, is_eq, ids_less)

-- ---- a new row

abbrev after : List Row → ℤ → ℤ
after rows start = fold (λ _ r. id_in (rowid r) +ℤ pos 1) start rows

put_next : {k : ℕ} {rows xs : List Row} → Rises k rows xs → (x : Row) → (m : ℕ) × (after rows (pos k) ≡ pos m) × (k ≤ m)
    × Rises k (put_row (Int (pos m) ∷ x) rows) (xs ++ x ∷ [])
put_next {k} none x = (k, refl, omega arith, one k x [] [] (omega arith) none)
put_next (one n y rows ys from h) x =
    let more = put_next h x in
    let less : value_cmp (Int (pos n)) (Int (pos more.0)) ≡ Less = ids_less n more.0 (omega (arith, more.2)) in
    (more.0, more.1, omega (arith, more.2), rw less (one n y _ _ from more.3))

pub next_is : (rows wanted : List Row) → IsHeldBy rows wanted → (m : ℕ) × (next_rowid rows ≡ pos m)
next_is rows wanted h = let made = put_next (risen 1 rows h.order h.rising) [] in (made.0, made.1)

pub held_added : (rows wanted : List Row) → IsHeldBy rows wanted → (x : Row) → IsHeldBy (put_row (Int (next_rowid rows) ∷ x) rows) (x ∷ wanted)
held_added rows wanted h x =
    let made = put_next (risen 1 rows h.order h.rising) x in
    record {
      order = h.order ++ x ∷ [];
      rising = subst (λ id. AreIn 1 (put_row (Int id ∷ x) rows) (h.order ++ x ∷ [])) (sym made.1) (are_in made.3);
      same = IsPermutation-trans _ _ _ (IsPermutation-cons x _ _ h.same) (IsPermutation-sym _ _ (IsPermutation-to_front h.order x));
    }

-- ---- a test that does not see the rowid

abbrev pub IsBlind : {A : Type 0} → (Row → A) → Type 0
IsBlind p = (id : Value) (x : Row) → p (id ∷ x) ≡ p (Null ∷ x)

abbrev pub on_content : {A : Type 0} → (Row → A) → Row → A
on_content p x = p (Null ∷ x)

pub shown_alike : {A : Type 0} (f : Row → A) → IsBlind f → {k : ℕ} {rows xs : List Row} → Rises k rows xs → map f rows ≡ map (on_content f) xs
shown_alike f fair none = refl
shown_alike f fair (one n x rows xs from h) = ap₂ ◌∷◌ (fair _ x) (shown_alike f fair h)

kept : (p : Row → Bool) → IsBlind p → {k : ℕ} {rows xs : List Row} → Rises k rows xs → Rises k (filter p rows) (filter (on_content p) xs)
kept p blind none = none
kept p blind {k} (one n x rows xs from h) =
    let more = kept p blind h in
    rw (blind (Int (pos n)) x) (elim (on_content p x) as (λ b. Rises k (cond b ((Int (pos n) ∷ x) ∷ filter p rows) (filter p rows))
    (cond b (x ∷ filter (on_content p) xs) (filter (on_content p) xs)))
    [ true ↦ one n x _ _ from more | false ↦ lower (omega arith) more ])

pub held_seen : (p : Row → Bool) → IsBlind p → {A : Type 0} (f : Row → A) → IsBlind f → (rows wanted : List Row) → IsHeldBy rows wanted
    → IsPermutation (map (on_content f) (filter (on_content p) wanted)) (map f (filter p rows))
held_seen p blind f fair rows wanted h =
    subst (IsPermutation _) (sym (shown_alike f fair (kept p blind (risen 1 rows h.order h.rising))))
    (IsPermutation-map (on_content f) _ _ (IsPermutation-filter (on_content p) _ _ h.same))

-- ---- rows that go

abbrev pub among : List ℤ → Value → Bool
among ids v = list_any (λ id. is_eq (value_cmp v (Int id))) ids

filter_twice : {A : Type 0} (p q : A → Bool) (xs : List A) → filter (λ x. not (q x)) (filter (λ x. not (p x)) xs) ≡ filter (λ x. not (p x || q x)) xs
filter_twice p q [] = refl
filter_twice p q (x ∷ xs) = grind (arith, filter_twice p q xs)

pub without_is : (ids : List ℤ) (rows : List Row) → without_all rows ids ≡ filter (λ r. not (among ids (rowid r))) rows
without_is [] rows = sym (filter_all (λ r. true) rows (all_of _ (λ r. refl) rows))
without_is (id ∷ ids) rows = without_is ids (without_rowid id rows) ∙ filter_twice (has_rowid id) (λ r. among ids (rowid r)) rows

-- a row passes where its rowid is among those of the rows that pass
named : (p : Row → Bool) → {k : ℕ} {rows xs : List Row} → Rises k rows xs → AllByRecursion (λ r. among (ids_of (filter p rows)) (rowid r) ≡ p r) rows
named p none = tt
named p (one n x rows xs from h) =
    let more = named p h in
    let later = past n (omega arith) h in
    let apart = λ (r : Row) (is : IsPast n r).
    let low : value_cmp (Int (pos n)) (Int (id_in (rowid r))) ≡ Less = rw is.2 (ids_less n is.0 is.1) in ap is_eq low in
    cond_both (p (Int (pos n) ∷ x)) ((Int (pos n) ∷ x) ∷ filter p rows) (filter p rows) (λ l. (among (ids_of l) (Int (pos n)) ≡ p (Int (pos n) ∷ x))
    × AllByRecursion (λ r. among (ids_of l) (rowid r) ≡ p r) rows)
    (λ e. (
      rw (ids_same n) (sym e),
      all_both (IsPast n) (λ r. among (ids_of (filter p rows)) (rowid r) ≡ p r) _ (λ r is same. rw (over n r is) same) rows later
          more,
    ))
    (λ e. (
      any_from_none _ _ (all_map (λ id. is_eq (value_cmp (Int (pos n)) (Int id)) ≡ false) (λ r. id_in (rowid r)) _
          (all-filter _ p rows (all_weaker (IsPast n) _ apart rows later))) ∙ sym e,
      more,
    ))

-- the rows that pass go, in whatever order their rowids are given
pub held_dropped : (p : Row → Bool) → IsBlind p → (rows wanted : List Row) → IsHeldBy rows wanted → (given : List ℤ)
    → IsPermutation (ids_of (filter p rows)) given → IsHeldBy (without_all rows given) (filter (λ x. not (p (Null ∷ x))) wanted)
held_dropped p blind rows wanted h given same =
    let it = risen 1 rows h.order h.rising in
    let left : without_all rows given ≡ filter (λ r. not (p r)) rows = without_is given rows
    ∙ filter_same _ _ rows (all_weaker (λ r. among (ids_of (filter p rows)) (rowid r) ≡ p r) _
    (λ r is. ap not (sym (list_any-IsPermutation _ _ given same) ∙ is)) rows (named p it)) in
    record {
      order = filter (λ x. not (p (Null ∷ x))) h.order;
      rising = rw left (are_in (kept (λ r. not (p r)) (λ id x. ap not (blind id x)) it));
      same = IsPermutation-filter (λ x. not (p (Null ∷ x))) _ _ h.same;
    }

-- ---- one row that changes

abbrev pub changed : (Row → Bool) → (Row → Row) → List Row → List Row
changed q f = map (λ x. cond (q x) (f x) x)

module _ (p : Row → Bool) (blind : IsBlind p) (f : Row → Row) where
  unchanged : {k : ℕ} {rows xs : List Row} → Rises k rows xs → filter p rows ≡ [] → changed (on_content p) f xs ≡ xs
  unchanged none is = refl
  unchanged (one n x rows xs from h) is = grind (arith, unchanged h, cond_both)

  -- the one row that passes takes its new values
  abbrev Takes : ℕ → List Row → List Row → Row → Type 0
  Takes k rows xs found = (n : ℕ) × (k ≤ n) × (x : Row) × (found ≡ Int (pos n) ∷ x)
      × Rises k (put_row (Int (pos n) ∷ f x) (without_rowid (pos n) rows)) (changed (on_content p) f xs)

  replaced : {k : ℕ} {rows xs : List Row} → Rises k rows xs → (found : Row) → filter p rows ≡ found ∷ [] → Takes k rows xs found
  replaced none found is = absurd (cc)
  replaced {k} (one n x rows xs from h) found is =
      let first : Row = Int (pos n) ∷ x in
      cond_both (p first) (first ∷ filter p rows) (filter p rows) (λ l. l ≡ found ∷ [] → Takes k (first ∷ rows) (x ∷ xs) found)
      (λ here all.
      let none_more : filter p rows ≡ [] = cc in
      let same : found ≡ first = cc in (
        n,
        from,
        x,
        same,
        rw (put_first n (Int (pos n) ∷ f x) first rows refl refl (past n (omega arith) h), sym (blind _ x) ∙ here, unchanged h none_more)
            (one n (f x) rows xs from h),
      ))
      (λ here all.
      let it = replaced h found all in
      let less : n < it.0 = omega (arith, it.1) in (
        it.0,
        omega arith,
        it.2,
        it.3,
        rw (put_later it.0 n (Int (pos it.0) ∷ f it.2) first rows refl refl less, sym (blind _ x) ∙ here)
            (one n x _ _ from it.4),
      )) is

  pub held_unchanged : (rows wanted : List Row) → IsHeldBy rows wanted → filter p rows ≡ [] → IsHeldBy rows (changed (on_content p) f wanted)
  held_unchanged rows wanted h is = record {
    order = changed (on_content p) f h.order;
    rising = rw (unchanged (risen 1 rows h.order h.rising) is) h.rising;
    same = IsPermutation-map _ _ _ h.same;
  }

  pub held_changed : (rows wanted : List Row) → IsHeldBy rows wanted → (found : Row) → filter p rows ≡ found ∷ []
      → (n : ℕ) × (x : Row) × (found ≡ Int (pos n) ∷ x) × IsHeldBy (put_row (Int (pos n) ∷ f x) (without_rowid (pos n) rows)) (changed (on_content p) f wanted)
  held_changed rows wanted h found is =
      let made = replaced (risen 1 rows h.order h.rising) found is in
      (made.0, made.2, made.3, record { order = changed (on_content p) f h.order; rising = are_in made.4; same = IsPermutation-map _ _ _ h.same })

-- ---- a key

-- two rows that pass have the same key
abbrev pub IsKey : (Row → Bool) → Order → List ℕ → Type 0
IsKey p o places = (r s : Row) → p r ≡ true → p s ≡ true → agree o places r places s ≡ true

ids_differ : (m n : ℕ) → m < n → differ (Int (pos n)) (Int (pos m)) ≡ true
unfolding binary
ids_differ m n h = rw (ids_more m n h) refl

module _ (o : Order) (places : List ℕ) where
  -- no two rows have the same key
  abbrev pub AreApart : List Row → Type 0
  AreApart = IsAscending (λ r s. agree o places s places r ≡ false)

  pub are_apart : {k : ℕ} {rows xs : List Row} → Rises k rows xs → AllByRecursion (λ row. clashes o places rows row ≡ false) rows → AreApart rows
  are_apart none h = tt
  are_apart (one n x rows xs from h) unique =
      let first : Row = Int (pos n) ∷ x in (
        all_both (IsPast n) (λ s. (agree o places s places first && differ (rowid s) (Int (pos n))) ≡ false) (λ s. agree o places s places first ≡ false)
            (λ s is none. let other : differ (rowid s) (Int (pos n)) ≡ true = rw is.2 (ids_differ n is.0 is.1) in sym (and-true _) ∙ (rw other at none))
            rows (past n (omega arith) h) (none_from_any _ rows (or_parts _ _ unique.0).1),
        are_apart h (all_weaker _ (λ row. clashes o places rows row ≡ false) (λ row c. (or_parts _ _ c).1) rows unique.1),
      )

  at_most_one : (rows : List Row) → AreApart rows → AllByRecursion (λ r. AllByRecursion (λ s. agree o places s places r ≡ true) rows) rows
      → (rows ≡ []) ⊎ ((found : Row) × (rows ≡ found ∷ []))
  at_most_one [] apart same = inl refl
  at_most_one (r ∷ []) apart same = inr (r, refl)
  at_most_one (r ∷ s ∷ rows) apart same = absurd (both_ways _ apart.0.0 same.0.1.0)

  pub one_at_most : (p : Row → Bool) → IsKey p o places → (rows : List Row) → AreApart rows → (filter p rows ≡ []) ⊎ ((found : Row)
      × (filter p rows ≡ found ∷ []))
  one_at_most p key rows apart = at_most_one (filter p rows) (ascending-filter _ p rows apart)
      (all_from _ _ (λ r there. all_from _ _ (λ s here. key s r (has_filtered p rows s here).1 (has_filtered p rows r there).1)))

-- ---- the row that was found

-- a test by the rowid
abbrev pub IsNaming : ℕ → (Row → Bool) → Type 0
IsNaming n named = (i : ℕ) (x : Row) → named (Int (pos i) ∷ x) ≡ is_eq (value_cmp (Int (pos i)) (Int (pos n)))

none_named : {k : ℕ} {rows xs : List Row} → Rises k rows xs → (m : ℕ) → m < k → (named : Row → Bool) → IsNaming m named → filter named rows ≡ []
none_named none m low named is = refl
none_named (one n x rows xs from h) m low named is = rw (is n x ∙ ap is_eq (ids_more m n (omega arith))) (none_named h m (omega arith) named is)

-- a row is the only one that has its rowid
only_named : {k : ℕ} {rows xs : List Row} → Rises k rows xs → (found : Row) → Has rows found → (n : ℕ) × (k ≤ n) × (x : Row) × (found ≡ Int (pos n) ∷ x)
    × ((named : Row → Bool) → IsNaming n named → filter named rows ≡ found ∷ [])
only_named none found there = absurd there
only_named (one n x rows xs from h) found (inl same) = grind (arith, named, is_eq, ids_same, none_named)
only_named (one n x rows xs from h) found (inr there) = grind (arith, only_named h found there, named, is_eq, ids_less)

pub found_id : (p : Row → Bool) (k : ℕ) (rows xs : List Row) → AreIn k rows xs → (found : Row) → filter p rows ≡ found ∷ []
    → (n : ℕ) × (k ≤ n) × (x : Row) × (found ≡ Int (pos n) ∷ x)
    × ((named : Row → Bool) → ((i : ℕ) (x : Row) → named (Int (pos i) ∷ x) ≡ is_eq (value_cmp (Int (pos i)) (Int (pos n)))) → filter named rows
    ≡ found ∷ [])
found_id p k rows xs h found is = only_named (risen k rows xs h) found (has_filtered p rows found (subst (λ l. Has l found) (sym is) (inl refl))).0
