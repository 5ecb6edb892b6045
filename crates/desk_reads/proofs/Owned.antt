-- The tags of many targets, or the attributes, read at once, and which of them are each one's own.
use Rattle.desk_reads.proofs.Common.{◌≡◌, ◌&&◌, ℕ, zero, suc, ◌<◌, ◌≤◌, Bool, true, false, List, [], ◌∷◌, map, find, length, take, drop, Option}
use Rattle.desk_reads.proofs.Common.{None, Some, Ok, Result, inr, refl, sym, subst}
use Rattle.std.specs.Prelude.{◌⊎◌, Err, IfErr}
use Rattle.std.specs.Result.{IsErrAnd}
use Rattle.sql_calls.specs.declared.fault.Fault.{Fault}
use Rattle.sql_calls.specs.declared.fault.Fault.TheVariants.{Broken, Memory}
use Rattle.desk_reads.proofs.Common.{ap, ◌∙◌, arith, and_parts, list_all, Records, Target, tags_of, target_of, IsSorted, are_sorted, ids_of}
use Rattle.desk_reads.proofs.Common.{in_byte_order}
use Rattle.desk_reads.proofs.Common.{AllAbove, sorted_from, has_id, same_true, Bytes}
use Rattle.desk_records.proofs.Targets.{none_after}
use Rattle.std.specs.Prelude.{◌++◌, ◌-◌, cond, not, filter, flat_map, get_or, slice_get}
use Rattle.std.specs.List.{AllByRecursion}
use Rattle.std.proofs.lemmas.List.{append-nil, append_assoc, drop-map, map-append, take-map, take_all}
use Rattle.rollout_machine.specs.ByteStrings.{bytes_below, same_bytes}
use Rattle.rollout_model.specs.declared.target.Target.{Target as SeenTarget}
use Rattle.std.specs.Cmp.Lexicographic.{slice_cmp}
use Rattle.std.specs.Ordering.{nat_cmp}
use Rattle.std.specs.declared.cmp.Ordering.{Ordering}
use Rattle.std.specs.declared.cmp.Ordering.TheVariants.{Equal, Greater, Less}
use Rattle.desk_records.specs.TargetRow.{listed_target, owned_attributes, owned_tags}
use Rattle.desk_records.specs.Targets.{is_between, targets_between}
use Rattle.desk_records.specs.declared.target_row.ListedTarget.{ListedTarget}
use Rattle.desk_records.specs.declared.target_row.OwnedAttribute.{OwnedAttribute}
use Rattle.desk_records.specs.declared.target_row.OwnedTag.{OwnedTag}
use Rattle.std.specs.Option.{IsSomeAnd}
use Rattle.desk_reads.proofs.Common.{Attribute, CommandList, IsValid, attributes_of, is_tag_list, records, true≢false}
use Rattle.desk_reads.proofs.TargetRules.{tags_keep}
use Rattle.desk_reads.specs.Targets.{AreAttributesOf, AreEnds, AreLeft, AreLists, AreTagsLike, HasItsAttributes, HasNoTagList, HasTagsLike}
use Rattle.desk_reads.specs.Targets.{attribute_ids, listed_ids, rises, tag_ids}
use Rattle.desk_reads.specs.Targets.{own_attributes, own_listed, own_tags, target_listed}
use Rattle.desk_reads.proofs.Common.{and_from, are_distinct_words, is_word, le-leb, leb-true, list_any, nat_eq, pointwise, same_pointwise}
use Rattle.std.specs.Prelude.{nat_le}
use Rattle.rollout_model.specs.Limits.{limits}
use Rattle.target_filter.specs.Names.{tags_like}
use Rattle.desk_records.proofs.Membership.{few_pass, same_kept}
use Rattle.desk_reads.proofs.WordOrder.{below_another, below_itself, below_other, below_through, below_under, compared_equal, compared_greater, compared_less}
use Rattle.desk_reads.proofs.WordOrder.{list_all_more, not_back, order_dropped, order_more, order_taken}

-- ---- its own of those that were read

-- what targets have of a kind, each with its target's id
module _ {X O : Type 0} (id_of : O → Bytes) (it : O → X) (id : Bytes) where
  abbrev own : List O → List X
  own os = map it (filter (λ o. same_bytes (id_of o) id) os)

  -- those that a walk takes until it comes to one behind the id, and what it leaves
  abbrev pub taken : List O → List X
  taken [] = []
  taken (o ∷ os) = cond (bytes_below id (id_of o)) [] (cond (same_bytes (id_of o) id) (it o ∷ taken os) (taken os))

  abbrev pub left : List O → List O
  left [] = []
  left (o ∷ os) = cond (bytes_below id (id_of o)) (o ∷ os) (left os)

  -- no word that is below one that none of them is below is of them
  none_own : (w : Bytes) → bytes_below id w ≡ true → (os : List O) → list_all (λ v. not (bytes_below v w)) (map id_of os) ≡ true → own os ≡ []
  none_own w above [] all = refl
  none_own w above (o ∷ os) all = grind (arith, none_own w above os, and_parts, below_through id w (id_of o), below_another id (id_of o))

  pub taken_is : (os : List O) → rises (map id_of os) ≡ true → taken os ≡ own os
  taken_is [] rise = refl
  taken_is (o ∷ os) rise = grind (arith, taken_is os, and_parts, none_own (id_of o), below_another id (id_of o))

  pub left_rises : (os : List O) → rises (map id_of os) ≡ true → rises (map id_of (left os)) ≡ true
  left_rises [] rise = refl
  left_rises (o ∷ os) rise = grind (arith, left_rises os, and_parts)

  -- a walk goes on behind one that is below the id, and behind one that is of it
  pub skips : (os : List O) (o : O) (n : ℕ) (words all : List X) (rest : List O) (order : Ordering) → n ≡ length os → 1 ≤ length os → o ≡ get_or os 0 o
      → order ≡ slice_cmp nat_cmp (id_of o) id → order ≡ Less → (words ++ taken os ≡ all) × (left os ≡ rest)
      → (words ++ taken (take (n - 1) (drop 1 os)) ≡ all) × (left (take (n - 1) (drop 1 os)) ≡ rest)
  skips [] o n words all rest order len some is compared less was = absurd (omega (arith, some))
  skips (x ∷ os) o n words all rest order len some is compared less was =
      let same : o ≡ x = is in
      let below = compared_less (id_of x) id (ap (λ o. slice_cmp nat_cmp (id_of o) id) (sym same) ∙ sym compared ∙ less) in
      let whole : take (n - 1) os ≡ os = take_all (n - 1) os (omega (arith, len)) in
      (rw whole (rw (below.0, below.1) at was.0), rw whole (rw below.0 at was.1))

  pub takes : (os : List O) (o : O) (n : ℕ) (words now all : List X) (rest : List O) (order : Ordering) → n ≡ length os → 1 ≤ length os → o ≡ get_or os 0 o
      → order ≡ slice_cmp nat_cmp (id_of o) id → order ≡ Equal → now ≡ words ++ it o ∷ [] → (words ++ taken os ≡ all) × (left os ≡ rest)
      → (now ++ taken (take (n - 1) (drop 1 os)) ≡ all) × (left (take (n - 1) (drop 1 os)) ≡ rest)
  takes [] o n words now all rest order len some is compared equal more was = absurd (omega (arith, some))
  takes (x ∷ os) o n words now all rest order len some is compared equal more was =
      let same : o ≡ x = is in
      let of_it = compared_equal (id_of x) id (ap (λ o. slice_cmp nat_cmp (id_of o) id) (sym same) ∙ sym compared ∙ equal) in
      let whole : take (n - 1) os ≡ os = take_all (n - 1) os (omega (arith, len)) in (
        rw (whole, more) (append_assoc words (it o ∷ []) (taken os) ∙ ap (λ o. words ++ it o ∷ taken os) same ∙ (rw (of_it.0, of_it.1) at was.0)),
        rw whole (rw of_it.0 at was.1),
      )

  -- .. and ends where nothing is left, and before one that is behind the id
  pub ends_empty : (os : List O) → length os < 1 → (taken os ≡ []) × (left os ≡ os)
  ends_empty [] none = (refl, refl)
  ends_empty (x ∷ os) none = absurd (omega (arith, none))

  pub ends_behind : (os : List O) (o : O) (order : Ordering) → 1 ≤ length os → o ≡ get_or os 0 o → order ≡ slice_cmp nat_cmp (id_of o) id
      → order ≡ Greater → (taken os ≡ []) × (left os ≡ os)
  ends_behind [] o order some is compared greater = absurd (omega (arith, some))
  ends_behind (x ∷ os) o order some is compared greater =
      let same : o ≡ x = is in
      let above = compared_greater (id_of x) id (ap (λ o. slice_cmp nat_cmp (id_of o) id) (sym same) ∙ sym compared ∙ greater) in
      (rw above refl, rw above refl)

  module _ (with_id : Bytes → X → O) (named : (i : Bytes) (x : X) → id_of (with_id i x) ≡ i) (held : (i : Bytes) (x : X) → it (with_id i x) ≡ x) where
    -- of what one target has, before others
    one : (i : Bytes) (b : Bool) → same_bytes i id ≡ b → (xs : List X) (more : List O) → own (map (with_id i) xs ++ more)
        ≡ cond b (xs ++ own more) (own more)
    one i true e [] more = refl
    one i false e [] more = refl
    one i b e (x ∷ xs) more = grind (arith, one i b e xs more, named i x, held i x)

    module _ (has : Target → List X) (has_of : Option Target → List X) (of_none : has_of None ≡ []) (of_some : (t : Target) → has_of (Some t) ≡ has t)
        (first last : Bytes) where
      abbrev within : Bytes → Bool
      within i = not (bytes_below i first) && not (bytes_below last i)

      abbrev owned_of : Target → List O
      owned_of t = map (with_id t.id) (has t)

      kept : (ts : List Target) → IsSorted (ids_of ts) → own (flat_map owned_of (filter (is_between first last) ts))
          ≡ cond (within id) (has_of (find (has_id id) ts)) []
      kept [] sorted = none (within id)
        where
          none : (b : Bool) → [] ≡ cond b (has_of None) []
          none true = sym of_none
          none false = refl
      kept (t ∷ ts) sorted =
          grind (
            arith,
            one t.id (same_bytes t.id id) refl (has t) (flat_map owned_of (filter (is_between first last) ts)),
            kept ts sorted.1,
            none_after id t ts,
            same_true t.id id,
            of_none,
            of_some t,
            append-nil,
          )

module _ {X O : Type 0} (id_of : O → Bytes) (it : O → X) where
  -- what is left of those that come in the order of ids is of targets behind the one of the id
  behind : (id j : Bytes) (os : List O) → rises (map id_of os) ≡ true
      → own id_of it j (left id_of it id os) ≡ cond (bytes_below id j) (own id_of it j os) []
  behind id j [] rise = grind arith
  behind id j (o ∷ os) rise =
      grind (
        arith,
        behind id j os,
        and_parts,
        none_own id_of it j (id_of o),
        below_under id (id_of o) j,
        below_under id j (id_of o),
        below_other (id_of o) j,
        below_another j (id_of o),
      )

  pub left_behind : (id : Bytes) (os : List O) → rises (map id_of os) ≡ true
      → AreLeft (map id_of) (λ j. own id_of it j) (id ∷ []) os (left id_of it id os)
  left_behind id os rise = record { rise = left_rises id_of it id os rise; behind = λ j. grind (arith, behind id j os rise) }

  -- what a walk took and left, where all come in the order of ids
  pub took : (id : Bytes) (owned os : List O) (words : List X) → (taken id_of it id os ≡ []) × (left id_of it id os ≡ os)
      → (words ++ taken id_of it id os ≡ taken id_of it id owned) × (left id_of it id os ≡ left id_of it id owned) → rises (map id_of owned) ≡ true
      → (words ≡ own id_of it id owned) × AreLeft (map id_of) (λ j. own id_of it j) (id ∷ []) owned os
  took id owned os words ends was rise = (
    sym (append-nil words) ∙ ap (λ xs. words ++ xs) (sym ends.0) ∙ was.0 ∙ taken_is id_of it id owned rise,
    subst (λ xs. AreLeft (map id_of) (λ j. own id_of it j) (id ∷ []) owned xs) (sym was.1 ∙ ends.1) (left_behind id owned rise),
  )

  pub left_more : (before : List Bytes) (id : Bytes) (owned mid os : List O) → AreLeft (map id_of) (λ j. own id_of it j) before owned mid
      → AreLeft (map id_of) (λ j. own id_of it j) (id ∷ []) mid os → AreLeft (map id_of) (λ j. own id_of it j) (before ++ id ∷ []) owned os
  left_more before id owned mid os was is = record {
    rise = is.rise;
    behind = λ j. grind (arith, is.behind j, was.behind j, list_all_more (λ w. bytes_below w j) before id);
  }

  module _ (with_id : Bytes → X → O) (named : (i : Bytes) (x : X) → id_of (with_id i x) ≡ i) (has : Target → List X) (p : Target → Bool) where
    abbrev flat : List Target → List O
    flat ts = flat_map (λ (t : Target). map (with_id t.id) (has t)) (filter p ts)

    none_below : (w i : Bytes) → bytes_below i w ≡ false → (xs : List X) (more : List O) → list_all (λ v. not (bytes_below v w)) (map id_of more) ≡ true
        → list_all (λ v. not (bytes_below v w)) (map id_of (map (with_id i) xs ++ more)) ≡ true
    none_below w i high [] more all = all
    none_below w i high (x ∷ xs) more all = grind (arith, none_below w i high xs more all, named i x)

    flat_above : (w : Bytes) (ts : List Target) → AllAbove w (ids_of ts) → list_all (λ v. not (bytes_below v w)) (map id_of (flat ts)) ≡ true
    flat_above w [] above = refl
    flat_above w (t ∷ ts) above = grind (arith, flat_above w ts above.1, none_below w t.id (not_back w t.id above.0) (has t) (flat ts))

    block_rises : (i : Bytes) (xs : List X) (more : List O) → list_all (λ v. not (bytes_below v i)) (map id_of more) ≡ true → rises (map id_of more) ≡ true
        → rises (map id_of (map (with_id i) xs ++ more)) ≡ true
    block_rises i [] more above rise = rise
    block_rises i (x ∷ xs) more above rise =
        grind (arith, block_rises i xs more above rise, none_below i i (below_itself i) xs more above, named i x)

    pub flat_rises : (ts : List Target) → IsSorted (ids_of ts) → rises (map id_of (flat ts)) ≡ true
    flat_rises [] sorted = refl
    flat_rises (t ∷ ts) sorted = grind (arith, flat_rises ts sorted.1, block_rises t.id (has t) (flat ts) (flat_above t.id ts sorted.0))

kept_tags : (id first last : Bytes) (ts : List Target) → IsSorted (ids_of ts) → own_tags id (flat_map owned_tags (filter (is_between first last) ts))
    ≡ cond (not (bytes_below id first) && not (bytes_below last id)) (tags_of (find (has_id id) ts)) []
kept_tags id first last =
    kept (λ (o : OwnedTag). o.id) (λ (o : OwnedTag). o.tag) id (λ (i w : Bytes). record { id = i; tag = w }) (λ i w. refl) (λ i w. refl)
    (λ (t : Target). t.tags) tags_of refl (λ t. refl) first last

kept_attributes : (id first last : Bytes) (ts : List Target) → IsSorted (ids_of ts)
    → own_attributes id (flat_map owned_attributes (filter (is_between first last) ts))
    ≡ cond (not (bytes_below id first) && not (bytes_below last id)) (attributes_of (find (has_id id) ts)) []
kept_attributes id first last =
    kept (λ (o : OwnedAttribute). o.id) (λ (o : OwnedAttribute). o.attribute) id (λ (i : Bytes) (a : Attribute). record { id = i; attribute = a })
    (λ i a. refl) (λ i a. refl) (λ (t : Target). t.attributes) attributes_of refl (λ t. refl) first last

-- ---- some of them

module _ (p : Bytes → Bool) where
  few_words : (ws : List Bytes) → length (filter p ws) ≤ length ws
  few_words ws = few_pass p ws

  each_word : (q : Bytes → Bool) (ws : List Bytes) → list_all q ws ≡ true → list_all q (filter p ws) ≡ true
  each_word q [] all = refl
  each_word q (w ∷ ws) all = grind (arith, each_word q ws, and_parts, and_from)

  no_word : (q : Bytes → Bool) (ws : List Bytes) → list_any q ws ≡ false → list_any q (filter p ws) ≡ false
  no_word q [] none = refl
  no_word q (w ∷ ws) none = grind (arith, no_word q ws)

  distinct_words : (ws : List Bytes) → are_distinct_words ws ≡ true → are_distinct_words (filter p ws) ≡ true
  distinct_words [] distinct = refl
  distinct_words (w ∷ ws) distinct = grind (arith, distinct_words ws, no_word (λ v. pointwise nat_eq v w) ws, and_parts, and_from)

  -- some tags of a list are a list of tags
  pub some_tags : (ws : List Bytes) → is_tag_list ws ≡ true → is_tag_list (filter p ws) ≡ true
  some_tags ws is =
      let parts = and_parts (nat_le (length ws) limits.tags) _ is in
      let words = and_parts (list_all is_word ws) (are_distinct_words ws) parts.1 in
      and_from _ _ (le-leb _ _ (omega (arith, few_words ws, leb-true _ _ parts.0)))
      (and_from _ _ (each_word is_word ws words.0) (distinct_words ws words.1))

  own_some : (id : Bytes) (os : List OwnedTag) → own_tags id (filter (λ (o : OwnedTag). p o.tag) os) ≡ filter p (own_tags id os)
  own_some id [] = refl
  own_some id (o ∷ os) = grind (arith, own_some id os)

  not_before : (w : Bytes) (os : List OwnedTag) → list_all (λ v. not (bytes_below v w)) (tag_ids os) ≡ true
      → list_all (λ v. not (bytes_below v w)) (tag_ids (filter (λ (o : OwnedTag). p o.tag) os)) ≡ true
  not_before w [] all = refl
  not_before w (o ∷ os) all = grind (arith, not_before w os, and_parts, and_from)

  some_rise : (os : List OwnedTag) → rises (tag_ids os) ≡ true → rises (tag_ids (filter (λ (o : OwnedTag). p o.tag) os)) ≡ true
  some_rise [] rise = refl
  some_rise (o ∷ os) rise = grind (arith, some_rise os, not_before o.id os, and_parts, and_from)

-- those that are this tag
pub like_this : (b : ℕ) (bs : Bytes) (ws : List Bytes) → filter (λ (w : Bytes). same_bytes w (b ∷ bs)) ws ≡ tags_like (b ∷ bs) ws
like_this b bs ws = same_kept (λ (w : Bytes). same_bytes w (b ∷ bs)) (λ (w : Bytes). pointwise nat_eq w (b ∷ bs)) ws (λ w has. sym (same_pointwise w (b ∷ bs)))

filter_again : (p : Bytes → Bool) (ws : List Bytes) → filter p (filter p ws) ≡ filter p ws
filter_again p [] = refl
filter_again p (w ∷ ws) = grind (arith, filter_again p ws)

pub like_again : (tag : Bytes) (ws : List Bytes) → tags_like tag (tags_like tag ws) ≡ tags_like tag ws
like_again [] ws = refl
like_again (b ∷ bs) ws = filter_again (λ (w : Bytes). pointwise nat_eq w (b ∷ bs)) ws

whole_list : (b : Bool) (xs ys : List Bytes) → xs ≡ cond b ys [] → is_tag_list ys ≡ true → is_tag_list xs ≡ true
whole_list true xs ys is list = ap is_tag_list is ∙ list
whole_list false xs ys is list = ap is_tag_list is

-- ---- of those that were listed

-- the first is at most each of them, and the last at least
module _ (last : Bytes) where
  low_enough : (x : Bytes) (ls : List ListedTarget) → list_all (bytes_below x) (listed_ids ls) ≡ true
      → AllByRecursion (λ (l : ListedTarget). bytes_below l.id x ≡ false) ls
  low_enough x [] all = tt
  low_enough x (l ∷ ls) all =
      let both = and_parts (bytes_below x l.id) (list_all (bytes_below x) (listed_ids ls)) all in (not_back x l.id both.0, low_enough x ls both.1)

  is_below : (x : Bytes) (ls : List ListedTarget) (l : ListedTarget) (at : ℕ) → list_all (bytes_below x) (listed_ids ls) ≡ true → slice_get ls at ≡ Some l
      → bytes_below x l.id ≡ true
  is_below x [] l at all is = absurd cc
  is_below x (y ∷ ls) l zero all is = grind (arith, and_parts)
  is_below x (y ∷ ls) l (suc at) all is = grind (arith, is_below x ls l at, and_parts)

  high_enough : (l x : ListedTarget) (ls : List ListedTarget) → in_byte_order (listed_ids (x ∷ ls)) ≡ true → slice_get (x ∷ ls) (length ls) ≡ Some l
      → AllByRecursion (λ (x : ListedTarget). bytes_below l.id x.id ≡ false) (x ∷ ls)
  high_enough l x [] ordered is = (let same : x ≡ l = grind arith in ap (λ (it : ListedTarget). bytes_below l.id it.id) same ∙ below_itself l.id, tt)
  high_enough l x (y ∷ ls) ordered is =
      let both = and_parts (list_all (bytes_below x.id) (listed_ids (y ∷ ls))) (in_byte_order (listed_ids (y ∷ ls))) ordered in
      (not_back x.id l.id (is_below x.id (y ∷ ls) l (length ls) both.0 is), high_enough l y ls both.1 is)

-- each is between the first and the last
each_between : (x last : ListedTarget) (ls : List ListedTarget) → slice_get (x ∷ ls) (length ls) ≡ Some last → in_byte_order (listed_ids (x ∷ ls)) ≡ true
    → AllByRecursion (λ (l : ListedTarget). bytes_below l.id x.id ≡ false) (x ∷ ls)
    × AllByRecursion (λ (l : ListedTarget). bytes_below last.id l.id ≡ false) (x ∷ ls)
each_between x last ls ends ordered =
    let both = and_parts (list_all (bytes_below x.id) (listed_ids ls)) (in_byte_order (listed_ids ls)) ordered in
    ((below_itself x.id, low_enough last.id x.id ls both.0), high_enough last.id last x ls ordered ends)

all_within : (P : ListedTarget → Type 0) (first last : Bytes)
    → ((l : ListedTarget) → bytes_below l.id first ≡ false → bytes_below last l.id ≡ false → P l) → (ls : List ListedTarget)
    → AllByRecursion (λ (l : ListedTarget). bytes_below l.id first ≡ false) ls → AllByRecursion (λ (l : ListedTarget). bytes_below last l.id ≡ false) ls
    → AllByRecursion P ls
all_within P first last one [] low high = tt
all_within P first last one (l ∷ ls) low high = (one l low.0 high.0, all_within P first last one ls low.1 high.1)

-- what holds of each that is between them holds of all that are listed from the first to the last
from_ends : (P : Bytes → Bytes → ListedTarget → Type 0)
    → ((first last : Bytes) (l : ListedTarget) → bytes_below l.id first ≡ false → bytes_below last l.id ≡ false → P first last l)
    → (first last : Bytes) (listed : List ListedTarget) → AreEnds listed first last → in_byte_order (listed_ids listed) ≡ true
    → AllByRecursion (P first last) listed
from_ends P each first last [] ends ordered = absurd ends.starts
from_ends P each first last (x ∷ ls) ends ordered = go (slice_get (x ∷ ls) (length ls)) refl
    (subst (λ n. IsSomeAnd (slice_get (x ∷ ls) n) (λ (l : ListedTarget). last ≡ l.id)) (omega arith) ends.ends)
  where
    go : (o : Option ListedTarget) → slice_get (x ∷ ls) (length ls) ≡ o → IsSomeAnd o (λ (l : ListedTarget). last ≡ l.id)
        → AllByRecursion (P first last) (x ∷ ls)
    go None at ends = absurd ends
    go (Some l) at same =
        let both = each_between x l ls at ordered in
        all_within (P first last) first last (each first last) (x ∷ ls)
        (subst (λ (id : Bytes). AllByRecursion (λ (k : ListedTarget). bytes_below k.id id ≡ false) (x ∷ ls)) (sym ends.starts) both.0)
        (subst (λ (id : Bytes). AllByRecursion (λ (k : ListedTarget). bytes_below id k.id ≡ false) (x ∷ ls)) (sym same) both.1)

module _ (r : Records) (sorted : are_sorted r.targets ≡ true) where
  apart : IsSorted (ids_of r.targets)
  apart = sorted_from (ids_of r.targets) (and_parts (in_byte_order (ids_of r.targets)) _ sorted).0

  its_tags : (first last : Bytes) (l : ListedTarget) → bytes_below l.id first ≡ false → bytes_below last l.id ≡ false
      → HasTagsLike r [] (flat_map owned_tags (targets_between first last r)) l
  its_tags first last l low high = kept_tags l.id first last r.targets apart ∙ (rw (low, high) refl)

  its_attributes : (first last : Bytes) (l : ListedTarget) → bytes_below l.id first ≡ false → bytes_below last l.id ≡ false
      → HasItsAttributes r (flat_map owned_attributes (targets_between first last r)) l
  its_attributes first last l low high = kept_attributes l.id first last r.targets apart ∙ (rw (low, high) refl)

  tags_rise : (first last : Bytes) → rises (tag_ids (flat_map owned_tags (targets_between first last r))) ≡ true
  tags_rise first last = flat_rises (λ (o : OwnedTag). o.id) (λ (o : OwnedTag). o.tag) (λ (i w : Bytes). record { id = i; tag = w }) (λ i w. refl)
      (λ (t : Target). t.tags) (is_between first last) r.targets apart

  tags_lists : (first last : Bytes) → AreLists r (flat_map owned_tags (targets_between first last r))
  tags_lists first last = record {
    each = λ id. whole_list (not (bytes_below id first) && not (bytes_below last id)) _ _ (kept_tags id first last r.targets apart);
  }

  -- what was read from the first to the last
  pub tags_between : (first last : Bytes) (listed : List ListedTarget) (owned : List OwnedTag) → AreEnds listed first last
      → owned ≡ flat_map owned_tags (targets_between first last r) → AreTagsLike r [] listed owned
  tags_between first last listed owned ends is = rw is (record {
    rise = tags_rise first last;
    lists = tags_lists first last;
    each = from_ends (λ first last. HasTagsLike r [] (flat_map owned_tags (targets_between first last r))) its_tags first last listed ends;
  })

  -- .. of one tag
  module _ (b : ℕ) (bs : Bytes) where
    abbrev is_this : Bytes → Bool
    is_this w = same_bytes w (b ∷ bs)

    abbrev of_this : List OwnedTag → List OwnedTag
    of_this os = filter (λ (o : OwnedTag). same_bytes o.tag (b ∷ bs)) os

    its_tag : (first last : Bytes) (l : ListedTarget) → bytes_below l.id first ≡ false → bytes_below last l.id ≡ false
        → HasTagsLike r (b ∷ bs) (of_this (flat_map owned_tags (targets_between first last r))) l
    its_tag first last l low high = own_some is_this l.id (flat_map owned_tags (targets_between first last r))
        ∙ ap (filter is_this) (its_tags first last l low high) ∙ like_this b bs (tags_of (target_of r l.id))

    pub tag_between : (first last : Bytes) (listed : List ListedTarget) (owned : List OwnedTag) → AreEnds listed first last
        → owned ≡ of_this (flat_map owned_tags (targets_between first last r)) → AreTagsLike r (b ∷ bs) listed owned
    tag_between first last listed owned ends is = rw is (record {
      rise = some_rise is_this (flat_map owned_tags (targets_between first last r)) (tags_rise first last);
      lists = record {
        each = λ id list. ap is_tag_list (own_some is_this id (flat_map owned_tags (targets_between first last r)))
            ∙ some_tags is_this (own_tags id (flat_map owned_tags (targets_between first last r))) ((tags_lists first last).each id list);
      };
      each = from_ends (λ first last. HasTagsLike r (b ∷ bs) (of_this (flat_map owned_tags (targets_between first last r)))) its_tag first last listed ends;
    })

  pub attributes_between : (first last : Bytes) (listed : List ListedTarget) (owned : List OwnedAttribute) → AreEnds listed first last
      → owned ≡ flat_map owned_attributes (targets_between first last r) → AreAttributesOf r listed owned
  attributes_between first last listed owned ends is = rw is (record {
    rise = flat_rises (λ (o : OwnedAttribute). o.id) (λ (o : OwnedAttribute). o.attribute) (λ (i : Bytes) (a : Attribute). record { id = i; attribute = a })
        (λ i a. refl) (λ (t : Target). t.attributes) (is_between first last) r.targets apart;
    each = from_ends (λ first last. HasItsAttributes r (flat_map owned_attributes (targets_between first last r))) its_attributes first last listed ends;
  })

-- no tags are a list of tags
pub no_lists : (r : Records) → AreLists r []
no_lists r = record { each = λ id list. refl }

pub all_so : (P : ListedTarget → Type 0) → ((l : ListedTarget) → P l) → (ls : List ListedTarget) → AllByRecursion P ls
all_so P one [] = tt
all_so P one (l ∷ ls) = (one l, all_so P one ls)

pub no_attributes_listed : (r : Records) → AreAttributesOf r [] []
no_attributes_listed r = record { rise = refl; each = λ ordered. tt }

pub none_listed : (r : Records) (tag : Bytes) → AreTagsLike r tag [] []
none_listed r tag = record { rise = refl; lists = no_lists r; each = λ ordered. tt }

-- each with its own is whole
pub all_own : (r : Records) (tags : List OwnedTag) (attributes : List OwnedAttribute) (ls : List ListedTarget)
    → AllByRecursion (HasTagsLike r [] tags) ls → AllByRecursion (HasItsAttributes r attributes) ls
    → map (own_listed tags attributes) ls ≡ map (target_listed r) ls
all_own r tags attributes [] tagged attributed = refl
all_own r tags attributes (l ∷ ls) tagged attributed =
    λ i. record { id = l.id; name = l.name; tags = tagged.0 i; attributes = attributed.0 i } ∷ all_own r tags attributes ls tagged.1 attributed.1 i

pub tags_left_more : (ls : List ListedTarget) (l : ListedTarget) (owned mid os : List OwnedTag) → AreLeft tag_ids own_tags (listed_ids ls) owned mid
    → AreLeft tag_ids own_tags (l.id ∷ []) mid os → AreLeft tag_ids own_tags (listed_ids (ls ++ l ∷ [])) owned os
tags_left_more ls l owned mid os was is =
    subst (λ ws. AreLeft tag_ids own_tags ws owned os) (sym (map-append (λ (l : ListedTarget). l.id) ls (l ∷ [])))
    (left_more (λ (o : OwnedTag). o.id) (λ (o : OwnedTag). o.tag) (listed_ids ls) l.id owned mid os was is)

pub attributes_left_more : (ls : List ListedTarget) (l : ListedTarget) (owned mid os : List OwnedAttribute)
    → AreLeft attribute_ids own_attributes (listed_ids ls) owned mid → AreLeft attribute_ids own_attributes (l.id ∷ []) mid os
    → AreLeft attribute_ids own_attributes (listed_ids (ls ++ l ∷ [])) owned os
attributes_left_more ls l owned mid os was is =
    subst (λ ws. AreLeft attribute_ids own_attributes ws owned os) (sym (map-append (λ (l : ListedTarget). l.id) ls (l ∷ [])))
    (left_more (λ (o : OwnedAttribute). o.id) (λ (o : OwnedAttribute). o.attribute) (listed_ids ls) l.id owned mid os was is)

-- one more with its own of what is left
pub one_more_own : (tags : List OwnedTag) (attributes : List OwnedAttribute) (was now : List SeenTarget) (ls : List ListedTarget) (l : ListedTarget)
    (words : List Bytes) (own : List Attribute) (t : SeenTarget) → in_byte_order (listed_ids (ls ++ l ∷ [])) ≡ true
    → (in_byte_order (listed_ids ls) ≡ true → was ≡ map (own_listed tags attributes) ls)
    → words ≡ cond (list_all (λ w. bytes_below w l.id) (listed_ids ls)) (own_tags l.id tags) []
    → own ≡ cond (list_all (λ w. bytes_below w l.id) (listed_ids ls)) (own_attributes l.id attributes) []
    → t ≡ record { id = l.id; name = l.name; tags = words; attributes = own } → now ≡ was ++ t ∷ []
    → now ≡ map (own_listed tags attributes) (ls ++ l ∷ [])
one_more_own tags attributes was now ls l words own t ordered so_far tagged attributed is more =
    let order = order_more (listed_ids ls) l.id (ap in_byte_order (sym (map-append (λ (l : ListedTarget). l.id) ls (l ∷ []))) ∙ ordered) in
    let its : own_tags l.id tags ≡ words = sym (tagged ∙ ap (λ b. cond b (own_tags l.id tags) []) order.1) in
    let others : own_attributes l.id attributes ≡ own = sym (attributed ∙ ap (λ b. cond b (own_attributes l.id attributes) []) order.1) in
    let same : own_listed tags attributes l ≡ t = (λ i. record { id = l.id; name = l.name; tags = its i; attributes = others i }) ∙ sym is in
    more ∙ ap (λ x. x ++ t ∷ []) (so_far order.0) ∙ ap (λ t. map (own_listed tags attributes) ls ++ t ∷ []) (sym same)
    ∙ sym (map-append (own_listed tags attributes) ls (l ∷ []))

-- ---- parts of what is listed

pub ids_listed : (ts : List Target) → listed_ids (map listed_target ts) ≡ ids_of ts
ids_listed [] = refl
ids_listed (t ∷ ts) = ap (λ l. t.id ∷ l) (ids_listed ts)

-- a part of all targets is listed in byte order
pub part_ordered : (r : Records) → are_sorted r.targets ≡ true → (n m : ℕ) → in_byte_order (listed_ids (map listed_target (take n (drop m r.targets)))) ≡ true
part_ordered r sorted n m =
    let named : listed_ids (map listed_target (take n (drop m r.targets))) ≡ take n (drop m (ids_of r.targets)) =
    ids_listed (take n (drop m r.targets)) ∙ sym (take-map (λ (t : Target). t.id) n (drop m r.targets))
    ∙ ap (take n) (sym (drop-map (λ (t : Target). t.id) m r.targets)) in
    ap in_byte_order named ∙ order_taken n (drop m (ids_of r.targets))
    (order_dropped m (ids_of r.targets) (and_parts (in_byte_order (ids_of r.targets)) _ sorted).0)

-- ---- at lists of accepted commands

pub never_wrong : (h : CommandList) → IsValid h → (owned : List OwnedTag) → AreLists (records h) owned → HasNoTagList owned → ⊥
never_wrong h valid owned lists it = true≢false (sym (lists.each it.id (tags_keep h valid it.id)) ∙ it.wrong)

-- what is left of the tags has no list of them for a target, so neither have all
wrong : (tags left : List OwnedTag) (before : List Bytes) (id : Bytes) (words : List Bytes) → AreLeft tag_ids own_tags before tags left
    → words ≡ own_tags id left → is_tag_list words ≡ false → HasNoTagList tags
wrong tags left before id words of own no_list = record { id = id; wrong = by (list_all (λ w. bytes_below w id) before) (own ∙ of.behind id) }
  where
    by : (b : Bool) → words ≡ cond b (own_tags id tags) [] → is_tag_list (own_tags id tags) ≡ false
    by true same = ap is_tag_list (sym same) ∙ no_list
    by false same = absurd (true≢false (ap is_tag_list (sym same) ∙ no_list))

pub wrong_list : {A : Type 0} (tags left : List OwnedTag) (before : List Bytes) (id : Bytes) (words : List Bytes)
    → (rises (tag_ids tags) ≡ true → AreLeft tag_ids own_tags before tags left) → (rises (tag_ids left) ≡ true → words ≡ own_tags id left)
    → (fault : Fault) → (fault ≡ Broken) × (is_tag_list words ≡ false) → (out : Result A Fault) → IsErrAnd out (λ e. e ≡ fault)
    → IfErr out (λ e. (e ≡ Memory) ⊎ ((e ≡ Broken) × (rises (tag_ids tags) ≡ true → HasNoTagList tags)))
wrong_list tags left before id words of own fault broken (Ok x) is = absurd is
wrong_list tags left before id words of own fault broken (Err e) is =
    inr (is ∙ broken.0, λ rise. let now = of rise in wrong tags left before id words now (own now.rise) broken.1)
