-- Targets as single writes change them.
use Rattle.desk_commands.proofs.Common.{◌≡◌, true, List, [], ◌∷◌, Option, Some, None, option_map, refl, sym, ap, ◌∙◌, arith, is_some, find}
use Rattle.desk_commands.proofs.Common.{and_parts, ids_of, keys_of, are_sorted, same_bytes, with_changed, in_byte_order}
use Rattle.desk_commands.proofs.Common.{attributes_of, tags_of, target_of, Bytes, Records, TargetRow, change_target, new_target, put_target, Target, AllAbove}
use Rattle.desk_commands.proofs.Common.{IsSorted, above_more, below_apart, same_refl, same_sym, sorted_from}
use Rattle.desk_records.proofs.Attributes.{attributes_sorted}
use Rattle.desk_records.proofs.Targets.{none_after, tags_sorted as tags_ordered, unchanged as changes_none}

-- the target of an id
abbrev pub found : Bytes → List Target → Option Target
found id ts = find (λ (t : Target). same_bytes t.id id) ts

-- what is there
pub there : {X : Type 0} (o : Option X) → is_some o ≡ true → (x : X) × (o ≡ Some x)
there o is = grind arith

-- ---- changes of lists

found_after : (id : Bytes) (f : Target → Target) → ((t : Target) → (f t).id ≡ t.id) → (ts : List Target) → found id (change_target id f ts)
    ≡ option_map f (found id ts)
found_after id f keeps [] = refl
found_after id f keeps (t ∷ ts) = grind (arith, keeps t, found_after id f keeps ts)

twice : (id : Bytes) (f : Target → Target) → ((t : Target) → (f t).id ≡ t.id) → (g : Target → Target) (ts : List Target)
    → change_target id g (change_target id f ts) ≡ change_target id (λ t. g (f t)) ts
twice id f keeps g [] = refl
twice id f keeps g (t ∷ ts) = grind (arith, keeps t, twice id f keeps g ts)

none : (id : Bytes) (ts : List Target) → change_target id (λ (t : Target). t) ts ≡ ts
none id [] = refl
none id (t ∷ ts) = grind (arith, none id ts)

pub none_above : (id : Bytes) (ts : List Target) → AllAbove id (ids_of ts) → found id ts ≡ None
none_above id [] above = refl
none_above id (t ∷ ts) above = grind (arith, above, same_sym t.id id, below_apart id t.id, none_above id ts)

same_change : (id : Bytes) (f g : Target → Target) (ts : List Target) (t : Target) → IsSorted (ids_of ts) → found id ts ≡ Some t → f t ≡ g t
    → change_target id f ts ≡ change_target id g ts
same_change id f g [] t sorted is same = refl
same_change id f g (x ∷ ts) t sorted is same =
    grind (arith, none_after id x ts, sorted, changes_none id f ts, changes_none id g ts, same_change id f g ts t sorted.1)

-- ---- changes of records

module _ (r : Records) (id : Bytes) where
  pub no_change : with_changed r id (λ (t : Target). t) ≡ r
  no_change = ap (λ (ts : List Target). record r { targets = ts }) (none id r.targets)

  -- one after the other
  module _ (f : Target → Target) (keeps : (t : Target) → (f t).id ≡ t.id) where
    pub find_changed : target_of (with_changed r id f) id ≡ option_map f (target_of r id)
    find_changed = found_after id f keeps r.targets

    pub change_twice : (g : Target → Target) → with_changed (with_changed r id f) id g ≡ with_changed r id (λ t. g (f t))
    change_twice g = ap (λ (ts : List Target). record r { targets = ts }) (twice id f keeps g r.targets)

  -- of targets in byte order
  module _ (sorted : are_sorted r.targets ≡ true) (t : Target) (is : target_of r id ≡ Some t) where
    -- what a change does to the target of the id is all that it does
    pub changed_as : (f g : Target → Target) → f t ≡ g t → with_changed r id f ≡ with_changed r id g
    changed_as f g same = grind (arith, same_change, sorted_from, and_parts)

    pub unchanged : (f : Target → Target) → f t ≡ t → with_changed r id f ≡ r
    unchanged f same = changed_as f (λ (u : Target). u) same ∙ no_change

    pub tags_sorted : IsSorted t.tags
    tags_sorted = sorted_from t.tags (ap (λ o. in_byte_order (tags_of o)) (sym is) ∙ tags_ordered id r.targets (and_parts _ _ sorted).1)

    pub keys_sorted : IsSorted (keys_of t.attributes)
    keys_sorted = sorted_from (keys_of t.attributes)
        (ap (λ o. in_byte_order (keys_of (attributes_of o))) (sym is) ∙ attributes_sorted id r.targets (and_parts _ _ sorted).1)

-- ---- a row

pub ids_sorted : (ts : List Target) → are_sorted ts ≡ true → IsSorted (ids_of ts)
ids_sorted ts sorted = sorted_from (ids_of ts) (and_parts _ _ sorted).0

-- a row changes the target that is there
pub put_there : (row : TargetRow) (f : Target → Target) (ts : List Target) (t : Target) → IsSorted (ids_of ts) → found row.id ts ≡ Some t
    → f t ≡ record (new_target row) { attributes = t.attributes } → change_target row.id f ts ≡ put_target row ts
put_there row f [] t sorted is same = grind arith
put_there row f (x ∷ ts) t sorted is same =
    let others = put_there row f ts t sorted.1 in
    let above = above_more row.id x.id (ids_of ts) in
    grind (arith, same_sym x.id row.id, none_after row.id x ts, none_above row.id ts, changes_none row.id f ts, others, above)

-- a target that isn't there is found once it is put
pub found_new : (row : TargetRow) (ts : List Target) → found row.id ts ≡ None → found row.id (put_target row ts) ≡ Some (new_target row)
found_new row [] none = grind (arith, same_refl row.id)
found_new row (x ∷ ts) none = grind (arith, same_refl row.id, same_sym x.id row.id, found_new row ts)

-- a target that isn't there can be put first, and then changed
pub put_new : (row whole : TargetRow) (f : Target → Target) → whole.id ≡ row.id → f (new_target row) ≡ new_target whole → (ts : List Target)
    → found row.id ts ≡ None → change_target row.id f (put_target row ts) ≡ put_target whole ts
put_new row whole f id_is is [] none = grind (arith, same_refl row.id)
put_new row whole f id_is is (x ∷ ts) none =
    grind (arith, same_refl row.id, same_sym x.id row.id, changes_none row.id f ts, put_new row whole f id_is is ts)
