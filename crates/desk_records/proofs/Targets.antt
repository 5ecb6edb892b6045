-- Targets and their rows, in lists alone.
use Rattle.desk_records.proofs.Common.{Less, common_steps, arith, ℕ, value_cmp, ◌≡◌, ◌++◌, Bool, true, false, cond, not, ◌&&◌, List, [], ◌∷◌, map, filter}
use Rattle.desk_records.proofs.Common.{slice_get, Option, Some, None, option_map, refl, sym, ap, ap₂, ◌∙◌, IsPermutation, flat_map, find, list_all}
use Rattle.desk_records.proofs.Common.{AllByRecursion, is_some, and_parts, or_parts, filter-append, IsPermutation-refl, IsPermutation-map}
use Rattle.desk_records.proofs.Common.{IsPermutation-append_left, Text, Row, by_column, Rise, same_bytes, bytes_below, contains_word, with_word, without_word}
use Rattle.desk_records.proofs.Common.{Bytes, TargetRow, new_target, put_target, change_target, Target, tags_of, AllAbove, IsSorted, not_above, same_sym}
use Rattle.desk_records.proofs.Common.{same_true, tag_rows, in_byte_order, ids_of, is_sorted, are_sorted, tagged, untagged}
use Rattle.desk_records.proofs.ByteOrder.{below_rises, between, in_order_with, with_is_more}

-- ---- the target of an id

abbrev pub has_id : Bytes → Target → Bool
has_id id t = same_bytes t.id id

-- what is found of a list is the first of all that pass
pub first_found : {X : Type 0} {A B : Type 0} (f : X → A) (p : A → Bool) (g : A → B) (q : X → Bool) → ((x : X) → p (f x) ≡ q x) → (xs : List X)
    → slice_get (map g (filter p (map f xs))) 0 ≡ option_map (λ x. g (f x)) (find q xs)
first_found f p g q same [] = refl
first_found f p g q same (x ∷ xs) = rw (same x) (grind (arith, first_found f p g q same xs))

-- none has an id that isn't among the ids
none_has : (id : Bytes) (ts : List Target) → contains_word id (ids_of ts) ≡ false → find (has_id id) ts ≡ None
none_has id [] none = refl
none_has id (t ∷ ts) none = grind (arith, none_has id ts, or_parts, same_sym)

-- after the target of an id there is no other
pub none_after : (id : Bytes) (t : Target) (ts : List Target) → same_bytes t.id id ≡ true → AllAbove t.id (ids_of ts) → find (has_id id) ts ≡ None
none_after id t ts same above = none_has id ts (ap (λ i. contains_word i (ids_of ts)) (sym (same_true t.id id same)) ∙ not_above t.id (ids_of ts) above)

-- ---- one target changes

module _ (id : Bytes) (f : Target → Target) where
  -- where there is none of the id, nothing changes
  pub unchanged : (ts : List Target) → find (has_id id) ts ≡ None → change_target id f ts ≡ ts
  unchanged [] none = refl
  unchanged (t ∷ ts) none = grind (arith, unchanged ts)

  -- what doesn't see the change
  pub changed_map : {A : Type 0} (g : Target → A) → ((t : Target) → g (f t) ≡ g t) → (ts : List Target) → map g (change_target id f ts) ≡ map g ts
  changed_map g same [] = refl
  changed_map g same (t ∷ ts) = grind (arith, changed_map g same ts, same t)

  pub changed_rows : (rows : Target → List Row) → ((t : Target) → rows (f t) ≡ rows t) → (ts : List Target) → flat_map rows (change_target id f ts)
      ≡ flat_map rows ts
  changed_rows rows same [] = refl
  changed_rows rows same (t ∷ ts) = grind (arith, changed_rows rows same ts, same t)

  all_sorted : ((t : Target) → is_sorted t ≡ true → is_sorted (f t) ≡ true) → (ts : List Target) → list_all is_sorted ts ≡ true
      → list_all is_sorted (change_target id f ts) ≡ true
  all_sorted keeps [] all = refl
  all_sorted keeps (t ∷ ts) all = grind (arith, all_sorted keeps ts, keeps t, and_parts)

  pub changed_sorted : ((t : Target) → (f t).id ≡ t.id) → ((t : Target) → is_sorted t ≡ true → is_sorted (f t) ≡ true) → (ts : List Target) → are_sorted ts
      ≡ true → are_sorted (change_target id f ts) ≡ true
  changed_sorted ids keeps ts sorted = grind (arith, and_parts, changed_map, all_sorted)

-- ---- the rows of a target's parts

abbrev pub rows_of : (Target → List Row) → Option Target → List Row
rows_of rows None = []
rows_of rows (Some t) = rows t

-- those of the target of an id
module _ (rows : Target → List Row) (p : Row → Bool) (id : Bytes) (its : (t : Target) → filter p (rows t) ≡ cond (same_bytes t.id id) (rows t) []) where
  pub its_rows : (ts : List Target) → IsSorted (ids_of ts) → filter p (flat_map rows ts) ≡ rows_of rows (find (has_id id) ts)
  its_rows [] sorted = refl
  its_rows (t ∷ ts) sorted = grind (arith, common_steps, its t, its_rows ts sorted.1, filter-append p (rows t) (flat_map rows ts), none_after id t ts)

-- the target that is found has the id
pub id_found : (id : Bytes) (ts : List Target) (found : Target) → find (has_id id) ts ≡ Some found → found.id ≡ id
id_found id [] found is = absurd cc
id_found id (t ∷ ts) found is = grind (arith, id_found id ts found, same_true t.id id)

-- a further row of one target is a further row of all
pub one_more : (rows : Target → List Row) (id : Bytes) (f : Target → Target) (x : Row) (found : Target) → IsPermutation (rows (f found)) (x ∷ rows found)
    → (ts : List Target) → IsSorted (ids_of ts) → find (has_id id) ts ≡ Some found
    → IsPermutation (flat_map rows (change_target id f ts)) (x ∷ flat_map rows ts)
one_more rows id f x found more [] sorted is = absurd cc
one_more rows id f x found more (t ∷ ts) sorted is =
    let first = IsPermutation-append_left (flat_map rows ts) (rows (f t)) (x ∷ rows t) in
    grind (arith, one_more rows id f x found more ts sorted.1, unchanged id f ts, none_after id t ts, between x (rows t), first)

-- .. where the target is there
pub one_part_more : (rows : Target → List Row) (id : Bytes) (f : Target → Target) (row : Bytes → Row) (ts : List Target) → IsSorted (ids_of ts)
    → is_some (find (has_id id) ts) ≡ true → ((t : Target) → find (has_id id) ts ≡ Some t → IsPermutation (rows (f t)) (row t.id ∷ rows t))
    → IsPermutation (flat_map rows (change_target id f ts)) (row id ∷ flat_map rows ts)
one_part_more rows id f row ts sorted there more = grind (arith, is_some, one_more, id_found)

-- ---- a new target

module _ (row : TargetRow) where
  -- its id comes in
  ids_with : (ts : List Target) → ids_of (put_target row ts) ≡ with_word row.id (ids_of ts)
  ids_with [] = refl
  ids_with (t ∷ ts) = grind (arith, ids_with ts, same_true row.id t.id)

  -- a target that has the id is none of these
  apart : (t : Target) (ts : List Target) → find (has_id row.id) (t ∷ ts) ≡ None → (same_bytes row.id t.id ≡ false) × (find (has_id row.id) ts ≡ None)
  apart t ts none = grind (arith, same_sym row.id t.id)

  pub put_is_more : (ts : List Target) → find (has_id row.id) ts ≡ None → IsPermutation (put_target row ts) (new_target row ∷ ts)
  put_is_more [] none = IsPermutation-refl (new_target row ∷ [])
  put_is_more (t ∷ ts) none =
      grind (arith, apart t ts none, IsPermutation-refl (new_target row ∷ t ∷ ts), between (new_target row) (t ∷ []) ts (put_target row ts), put_is_more ts)

  -- with no parts it adds no rows of parts
  pub put_rows : (rows : Target → List Row) → rows (new_target row) ≡ [] → (ts : List Target) → find (has_id row.id) ts ≡ None
      → flat_map rows (put_target row ts) ≡ flat_map rows ts
  put_rows rows bare [] none = ap (λ l. l ++ []) bare
  put_rows rows bare (t ∷ ts) none = grind (arith, put_rows rows bare ts, same_sym row.id t.id)

  put_all : (new : is_sorted (new_target row) ≡ true) (ts : List Target) → find (has_id row.id) ts ≡ None → list_all is_sorted ts ≡ true
      → list_all is_sorted (put_target row ts) ≡ true
  put_all new [] none all = rw new refl
  put_all new (t ∷ ts) none all = grind (arith, put_all new ts, same_sym row.id t.id, and_parts)

  pub put_sorted : is_sorted (new_target row) ≡ true → (ts : List Target) → find (has_id row.id) ts ≡ None → are_sorted ts ≡ true
      → are_sorted (put_target row ts) ≡ true
  put_sorted new ts none sorted = grind (arith, and_parts, ids_with, in_order_with, put_all)

-- ---- in byte order of their ids

-- rows in byte order of their keys come in the order of the keys' column
pub keys_rise : {A : Type 0} (key : A → Bytes) (row : A → Row) (c : ℕ) → ((a b : A) → by_column c (row a) (row b) ≡ value_cmp (Text (key a)) (Text (key b)))
    → (all : List A) → in_byte_order (map key all) ≡ true → Rise c (map row all)
keys_rise key row c is [] ordered = tt
keys_rise {A} key row c is (a ∷ more) ordered = grind (arith, go more, keys_rise key row c is more, and_parts)
  where
    go : (bs : List A) → list_all (bytes_below (key a)) (map key bs) ≡ true → AllByRecursion (λ r. by_column c (row a) r ≡ Less) (map row bs)
    go [] all = tt
    go (b ∷ bs) all = grind (arith, is a b, below_rises (key a) (key b), go bs, and_parts)

-- ---- tags

abbrev pub tag_row : Bytes → Bytes → Row
tag_row id w = Text id ∷ Text w ∷ []

-- the tags of a target that is there are in byte order
pub tags_sorted : (id : Bytes) (ts : List Target) → list_all is_sorted ts ≡ true → in_byte_order (tags_of (find (has_id id) ts)) ≡ true
tags_sorted id [] all = refl
tags_sorted id (t ∷ ts) all = grind (arith, tags_sorted id ts, and_parts)

-- one more tag of a target is one more row
pub tag_is_more : (id w : Bytes) (ts : List Target) → IsSorted (ids_of ts) → is_some (find (has_id id) ts) ≡ true
    → contains_word w (tags_of (find (has_id id) ts)) ≡ false
    → IsPermutation (flat_map tag_rows (change_target id (tagged w) ts)) (tag_row id w ∷ flat_map tag_rows ts)
tag_is_more id w ts sorted there new = one_part_more tag_rows id (tagged w) (λ i. tag_row i w) ts sorted there
    (λ t is. IsPermutation-map (tag_row t.id) _ _ (with_is_more w t.tags (ap (λ found. contains_word w (tags_of found)) (sym is) ∙ new)))

-- one tag less of a target is that row less
module _ (id w : Bytes) (keeps : Row → Bool) (same : (i v : Bytes) → keeps (tag_row i v) ≡ not (same_bytes i id && same_bytes v w)) where
  left : (i : Bytes) (b : Bool) → same_bytes i id ≡ b → (vs : List Bytes) → filter keeps (map (tag_row i) vs) ≡ map (tag_row i) (cond b (without_word w vs) vs)
  left i b e [] = grind arith
  left i b e (v ∷ vs) = grind (arith, left i b e vs, same i v, same_sym v w)

  one_left : (t : Target) → filter keeps (tag_rows t) ≡ tag_rows (cond (same_bytes t.id id) (untagged w t) t)
  one_left t = grind (arith, left t.id (same_bytes t.id id) refl t.tags)

  pub tag_is_less : (ts : List Target) → filter keeps (flat_map tag_rows ts) ≡ flat_map tag_rows (change_target id (untagged w) ts)
  tag_is_less [] = refl
  tag_is_less (t ∷ ts) = filter-append keeps (tag_rows t) (flat_map tag_rows ts) ∙ ap₂ ◌++◌ (one_left t) (tag_is_less ts)
