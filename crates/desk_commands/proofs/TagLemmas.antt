-- What the writes of a target's tags come to.
use Rattle.desk_commands.proofs.Common.{◌≡◌, ◌≤◌, ◌<◌, ◌-◌, true, false, ◌||◌, ◌&&◌, not, nat_eq, List, [], ◌∷◌, length, get_or, take, drop, Some, option_map}
use Rattle.desk_commands.proofs.Common.{refl, sym, ap, ◌∙◌, arith, is_some, list_any, pointwise, and_parts, take_all, AddsTag, are_sorted, tagged, with_changed}
use Rattle.desk_commands.proofs.Common.{contains_word, with_word, with_words, without_word, sorted_words, Bytes, Records, target_of, tags_of, IsSorted}
use Rattle.desk_commands.proofs.Common.{sorted_with_all, has_sorted, has_with, has_without, same_pointwise, same_refl, same_sym, same_true, are_distinct_words}
use Rattle.desk_commands.proofs.Common.{is_tag_list, AddsTags, DropsTags, Retags, lacking, retagged, tagged_with, untagged_from, without_words}
use Rattle.rollout_machine.proofs.Orders.{sorted_all, sorted_without}
use Rattle.desk_commands.proofs.ByteOrderLemmas.{same_words}
use Rattle.desk_commands.proofs.TargetLemmas.{changed_as, change_twice, find_changed, no_change, tags_sorted, there}

-- ---- several words

pub has_all : (x : Bytes) (us vs : List Bytes) → contains_word x (with_words us vs) ≡ (contains_word x us || contains_word x vs)
has_all x [] vs = refl
has_all x (u ∷ us) vs = grind (arith, has_all x us (with_word u vs), has_with x u vs)

lacks_all : (x : Bytes) (us vs : List Bytes) → contains_word x (without_words us vs) ≡ (not (contains_word x us) && contains_word x vs)
lacks_all x [] vs = refl
lacks_all x (u ∷ us) vs = grind (arith, lacks_all x us (without_word u vs), has_without x u vs)

has_lacking : (x : Bytes) (us vs : List Bytes) → contains_word x (lacking us vs) ≡ (contains_word x us && not (contains_word x vs))
has_lacking x [] vs = refl
has_lacking x (u ∷ us) vs = grind (arith, same_true x u, has_lacking x us vs)

sorted_without_all : (us vs : List Bytes) → IsSorted vs → IsSorted (without_words us vs)
sorted_without_all [] vs sorted = sorted
sorted_without_all (u ∷ us) vs sorted = sorted_without_all us (without_word u vs) (sorted_without u vs sorted)

-- the tags that were had lose those that aren't wanted, and get the others that are
pub retag_words : (ws vs : List Bytes) → IsSorted vs → with_words (lacking ws vs) (without_words (lacking vs ws) vs) ≡ sorted_words ws
retag_words ws vs sorted = same_words _ _
    (sorted_with_all (lacking ws vs) (without_words (lacking vs ws) vs) (sorted_without_all (lacking vs ws) vs sorted)) (sorted_all ws)
    (λ x. let new = has_lacking x ws vs in let old = has_lacking x vs ws in let all = has_all x (lacking ws vs) (without_words (lacking vs ws) vs) in
    grind (arith, new, old, all, lacks_all x (lacking vs ws) vs, has_sorted x ws))

-- ---- words as the code compares them

pub pointwise_is : (xs ys : Bytes) → pointwise nat_eq xs ys ≡ true → xs ≡ ys
pointwise_is xs ys is = same_true xs ys (sym (same_pointwise xs ys) ∙ is)

pub any_word : (w : Bytes) (ws : List Bytes) → list_any (λ v. pointwise nat_eq v w) ws ≡ contains_word w ws
any_word w [] = refl
any_word w (v ∷ ws) = λ i. (same_pointwise v w ∙ same_sym v w) i || any_word w ws i

pub tags_distinct : (ws tags : List Bytes) → is_tag_list ws ≡ true → ws ≡ tags → are_distinct_words tags ≡ true
tags_distinct ws tags good is = ap are_distinct_words (sym is) ∙ (and_parts _ _ (and_parts _ _ good).1).1

-- ---- the tags that are added

pub adds_none : (id : Bytes) (had : List Bytes) (r next : Records) → AddsTags id [] had r next → next ≡ r
adds_none id had r next h = h.next_is ∙ no_change r id

-- the first was had
pub has_first : (id w : Bytes) (tags had : List Bytes) → contains_word w had ≡ true → (r next : Records) → AddsTags id (w ∷ tags) had r next
    → AddsTags id tags had r next
has_first id w tags had is r next h = record {
  is_there = h.is_there;
  are_distinct = (and_parts _ _ h.are_distinct).1;
  are_new = λ v among. h.are_new v (grind (arith, among));
  next_is = rw is at h.next_is;
}

pub adds_first : (id w : Bytes) (tags had : List Bytes) → contains_word w had ≡ false → (r next : Records) → AddsTags id (w ∷ tags) had r next
    → (mid : Records) × AddsTag id w r mid × AddsTags id tags had mid next
adds_first id w tags had new r next h =
    let now = find_changed r id (tagged w) (λ t. refl) in
    let it = there (target_of r id) h.is_there in
    let apart = any_word w tags in (
      with_changed r id (tagged w),
      record { is_there = h.is_there; is_new = h.are_new w (grind (arith, same_refl w)) new; next_is = refl },
      record {
        is_there = grind (arith, now, it);
        are_distinct = (and_parts _ _ h.are_distinct).1;
        are_new = λ v among other. (let was = h.are_new v (grind (arith, among)) other in
            grind (arith, now, it, was, has_with v w it.0.tags, same_true v w, apart, among, h.are_distinct));
        next_is = rw new at h.next_is ∙ sym (change_twice r id (tagged w) (λ t. refl) (tagged_with (lacking tags had)));
      },
    )

-- ---- all tags

-- the tags that were read are those of the target
pub retags_parts : (id : Bytes) (words had : List Bytes) → are_distinct_words words ≡ true → (r next : Records) → are_sorted r.targets ≡ true
    → had ≡ tags_of (target_of r id) → Retags id words r next
    → (mid : Records) × DropsTags id had words r mid × AddsTags id words had mid next
retags_parts id words had distinct r next sorted read h =
    let it = there (target_of r id) h.0 in
    let t = it.0 in
    let had_is : had ≡ t.tags = read ∙ ap tags_of it.1 in
    let dropped = untagged_from (lacking had words) in
    let now : target_of (with_changed r id dropped) id ≡ Some (dropped t) = find_changed r id dropped (λ u. refl) ∙ ap (option_map dropped) it.1 in
    let tags : with_words (lacking words had) (without_words (lacking had words) t.tags) ≡ sorted_words words =
    rw had_is (retag_words words t.tags (tags_sorted r id sorted t it.1)) in (
      with_changed r id dropped,
      refl,
      record {
        is_there = ap is_some now;
        are_distinct = distinct;
        are_new = λ w among new. grind (arith, now, lacks_all w (lacking had words) t.tags, had_is, new);
        next_is = h.1
            ∙ sym (change_twice r id dropped (λ u. refl) (tagged_with (lacking words had))
            ∙ changed_as r id sorted t it.1 (λ u. tagged_with (lacking words had) (dropped u)) (retagged words)
            (ap (λ (us : List Bytes). record t { tags = us }) tags));
      },
    )

-- ---- the tags in a slice

pub none_left : {X : Type 0} (xs : List X) → length xs < 1 → xs ≡ []
none_left [] few = refl
none_left (x ∷ xs) few = absurd (omega (arith, few))

-- a list by its first item
pub front : {X : Type 0} (all : List X) (x : X) → 1 ≤ length all → x ≡ get_or all 0 x → all ≡ x ∷ take (length all - 1) (drop 1 all)
front [] x some is = absurd (omega (arith, some))
front (y ∷ ys) x some is = λ i. sym is i ∷ sym (take_all (length (y ∷ ys) - 1) ys (omega arith)) i
