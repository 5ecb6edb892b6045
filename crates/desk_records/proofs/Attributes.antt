-- The attributes of targets and their rows, in lists alone.
use Rattle.desk_records.proofs.Common.{arith, ◌≡◌, Bool, true, false, cond, ◌&&◌, List, [], ◌∷◌, map, None, refl, sym, ap, ◌∙◌, IsPermutation, flat_map, find}
use Rattle.desk_records.proofs.Common.{list_all, is_some, and_parts, or_parts, false≢true, map-append, IsPermutation-refl, IsPermutation-map, Text, Row}
use Rattle.desk_records.proofs.Common.{changed, same_bytes, contains_word, with_word, Bytes, Attribute, change_target, Target, with_attribute, IsSorted}
use Rattle.desk_records.proofs.Common.{above_more, not_above, same_sym, same_true, attribute_rows, in_byte_order, keys_of, ids_of, is_sorted, attributes_of}
use Rattle.desk_records.proofs.Common.{attributed}
use Rattle.desk_records.proofs.ByteOrder.{between, sorted_from, in_order_with}
use Rattle.desk_records.proofs.Targets.{has_id, none_after, unchanged, one_part_more}

-- ---- the attributes of one target

pub keys_with : (a : Attribute) (bs : List Attribute) → keys_of (with_attribute a bs) ≡ with_word a.key (keys_of bs)
keys_with a [] = refl
keys_with a (b ∷ bs) = grind (arith, keys_with a bs, same_true a.key b.key)

pub in_order_with_attribute : (a : Attribute) (bs : List Attribute) → in_byte_order (keys_of bs) ≡ true → in_byte_order (keys_of (with_attribute a bs)) ≡ true
in_order_with_attribute a bs ordered = ap in_byte_order (keys_with a bs) ∙ in_order_with a.key (keys_of bs) ordered

pub with_is_more : (a : Attribute) (bs : List Attribute) → contains_word a.key (keys_of bs) ≡ false → IsPermutation (with_attribute a bs) (a ∷ bs)
with_is_more a [] new = IsPermutation-refl (a ∷ [])
with_is_more a (b ∷ bs) new =
    grind (arith, IsPermutation-refl (a ∷ b ∷ bs), between a (b ∷ []) bs (with_attribute a bs), with_is_more a bs, or_parts)

-- an attribute of the key gets the value
abbrev pub revalued : Attribute → Attribute → Attribute
revalued a b = cond (same_bytes b.key a.key) (record b { value = a.value }) b

others_stay : (a : Attribute) (bs : List Attribute) → contains_word a.key (keys_of bs) ≡ false → map (revalued a) bs ≡ bs
others_stay a [] none = refl
others_stay a (b ∷ bs) none = grind (arith, others_stay a bs, same_sym b.key a.key)

pub revalues : (a : Attribute) (bs : List Attribute) → IsSorted (keys_of bs) → contains_word a.key (keys_of bs) ≡ true → map (revalued a) bs
    ≡ with_attribute a bs
revalues a [] sorted there = absurd (false≢true there)
revalues a (b ∷ bs) sorted there =
    grind (arith, revalues a bs sorted.1, others_stay a bs, same_true a.key b.key, same_sym b.key a.key, not_above, above_more a.key b.key, sorted.0)

-- ---- their rows

abbrev pub attribute_row : Bytes → Attribute → Row
attribute_row id a = Text id ∷ Text a.key ∷ Text a.value ∷ []

-- the attributes of a target that is there are in byte order
pub attributes_sorted : (id : Bytes) (ts : List Target) → list_all is_sorted ts ≡ true → in_byte_order (keys_of (attributes_of (find (has_id id) ts))) ≡ true
attributes_sorted id [] all = refl
attributes_sorted id (t ∷ ts) all = grind (arith, attributes_sorted id ts, and_parts)

-- one more attribute of a target is one more row
pub attribute_is_more : (id : Bytes) (a : Attribute) (ts : List Target) → IsSorted (ids_of ts) → is_some (find (has_id id) ts) ≡ true
    → contains_word a.key (keys_of (attributes_of (find (has_id id) ts))) ≡ false
    → IsPermutation (flat_map attribute_rows (change_target id (attributed a) ts)) (attribute_row id a ∷ flat_map attribute_rows ts)
attribute_is_more id a ts sorted there new = one_part_more attribute_rows id (attributed a) (λ i. attribute_row i a) ts sorted there
    (λ t is. IsPermutation-map (attribute_row t.id) _ _
    (with_is_more a t.attributes (ap (λ found. contains_word a.key (keys_of (attributes_of found))) (sym is) ∙ new)))

-- another value of an attribute that is there is another value in its row
module _ (id : Bytes) (a : Attribute) (names : Row → Bool) (sets : Row → Row) (named : (i : Bytes) (b : Attribute) → names (attribute_row i b)
    ≡ (same_bytes i id && same_bytes b.key a.key))
    (set : (i : Bytes) (b : Attribute) → sets (attribute_row i b) ≡ attribute_row i (record b { value = a.value })) where
  of_one : (i : Bytes) (s : Bool) → same_bytes i id ≡ s → (bs : List Attribute) → changed names sets (map (attribute_row i) bs)
      ≡ map (attribute_row i) (cond s (map (revalued a) bs) bs)
  of_one i s e [] = grind arith
  of_one i s e (b ∷ bs) = grind (arith, of_one i s e bs, named i b, set i b)

  none_set : (ts : List Target) → find (has_id id) ts ≡ None → changed names sets (flat_map attribute_rows ts) ≡ flat_map attribute_rows ts
  none_set [] none = refl
  none_set (t ∷ ts) none = grind (arith, none_set ts, of_one t.id (same_bytes t.id id) refl t.attributes, map-append)

  pub attribute_is_set : (ts : List Target) → IsSorted (ids_of ts) → list_all is_sorted ts ≡ true
      → contains_word a.key (keys_of (attributes_of (find (has_id id) ts))) ≡ true
      → changed names sets (flat_map attribute_rows ts) ≡ flat_map attribute_rows (change_target id (attributed a) ts)
  attribute_is_set [] sorted all there = absurd (false≢true there)
  attribute_is_set (t ∷ ts) sorted all there =
      let own = of_one t.id (same_bytes t.id id) refl t.attributes in
      grind (arith, attribute_is_set ts sorted.1, own, revalues a t.attributes, sorted_from, none_set ts, none_after id t ts, unchanged, map-append)
