-- The lists of targets, tags and members rise in byte order.
use Rattle.rollout_machine.proofs.Common.{◌≡◌, ℕ, zero, suc, ◌<◌, Bool, true, false, cond, not, List, [], ◌∷◌, map, refl, sym, ◌∙◌, ap, subst, arith, Option}
use Rattle.rollout_machine.proofs.Common.{Some, None, filter, slice_get, option_map, Tree, filter_of, bytes_below, item_numbered, same_bytes, sorted_words}
use Rattle.rollout_machine.proofs.Common.{without_word, CommandList, Make, ◌▸◌, Bytes, PutTargets, Tag, TargetRow, Untag, matches, Rollout, chosen, rollout_at}
use Rattle.rollout_machine.proofs.Common.{Target, last_row_for, tags_by_row, tags_in, target_ids, target_in, targets, IsValid}
use Rattle.rollout_machine.specs.Orders.{ListsRiseInOrder, RiseInBytes}
use Rattle.rollout_machine.specs.Records.{records}
use Rattle.rollout_machine.proofs.Actions.{numbered_map}
use Rattle.rollout_machine.proofs.AtNumbers.{of_rollout}
use Rattle.rollout_machine.proofs.Imports.{AllAbove, IsSorted, sorted_ids, sorted_with}
use Rattle.rollout_machine.proofs.WithinLimits.{each_created, ids_are}

-- ---- sorted lists rise

above_at : (t : Bytes) (vs : List Bytes) → AllAbove t vs → (k : ℕ) (b : Bytes) → slice_get vs k ≡ Some b → bytes_below t b ≡ true
above_at t [] above k b e = cc
above_at t (v ∷ vs) above zero b e = let same : v ≡ b = cc in subst (λ (w : Bytes). bytes_below t w ≡ true) same above.0
above_at t (v ∷ vs) above (suc k) b e = above_at t vs above.1 k b e

rises_at : (vs : List Bytes) → IsSorted vs → (i j : ℕ) (a b : Bytes) → i < j → slice_get vs i ≡ Some a → slice_get vs j ≡ Some b → bytes_below a b ≡ true
rises_at [] sorted i j a b l e d = cc
rises_at (v ∷ vs) sorted i zero a b l e d = absurd (omega (arith, l))
rises_at (v ∷ vs) sorted zero (suc j) a b l e d = let same : v ≡ a = cc in subst (λ (w : Bytes). bytes_below w b ≡ true) same (above_at v vs sorted.0 j b d)
rises_at (v ∷ vs) sorted (suc i) (suc j) a b l e d = rises_at vs sorted.1 i j a b (omega (arith, l)) e d

sorted_rises : (vs : List Bytes) → IsSorted vs → RiseInBytes vs
sorted_rises vs sorted h2 j a b l e d = grind (arith, rises_at)

-- ---- some words of a sorted list

above_some : (t : Bytes) (keeps : Bytes → Bool) (vs : List Bytes) → AllAbove t vs → AllAbove t (filter keeps vs)
above_some t keeps [] above = tt
above_some t keeps (v ∷ vs) above = go (keeps v) (above_some t keeps vs above.1)
  where
    go : (kept : Bool) → AllAbove t (filter keeps vs) → AllAbove t (cond kept (v ∷ filter keeps vs) (filter keeps vs))
    go true ih = (above.0, ih)
    go false ih = ih

sorted_some : (keeps : Bytes → Bool) (vs : List Bytes) → IsSorted vs → IsSorted (filter keeps vs)
sorted_some keeps [] sorted = tt
sorted_some keeps (v ∷ vs) sorted = go (keeps v) (sorted_some keeps vs sorted.1)
  where
    go : (kept : Bool) → IsSorted (filter keeps vs) → IsSorted (cond kept (v ∷ filter keeps vs) (filter keeps vs))
    go true ih = (above_some v keeps vs sorted.0, ih)
    go false ih = ih

without_is : (w : Bytes) (vs : List Bytes) → filter (λ v. not (same_bytes w v)) vs ≡ without_word w vs
without_is w [] = refl
without_is w (v ∷ vs) = go (same_bytes w v) (without_is w vs)
  where
    go : (same : Bool) → filter (λ v. not (same_bytes w v)) vs ≡ without_word w vs
        → cond (not same) (v ∷ filter (λ v. not (same_bytes w v)) vs) (filter (λ v. not (same_bytes w v)) vs)
        ≡ cond same (without_word w vs) (v ∷ without_word w vs)
    go true ih = ih
    go false ih = ap (λ ws. v ∷ ws) ih

pub sorted_without : (w : Bytes) (vs : List Bytes) → IsSorted vs → IsSorted (without_word w vs)
sorted_without w vs sorted = subst IsSorted (without_is w vs) (sorted_some (λ v. not (same_bytes w v)) vs sorted)

matching_are : (h : CommandList) (f : Tree) (ids : List Bytes) → filter (λ t. matches f (target_in h t)) ids ≡ chosen (Some f) (map (target_in h) ids)
matching_are h f [] = refl
matching_are h f (t ∷ ids) = go (matches f (target_in h t)) (matching_are h f ids)
  where
    go : (taken : Bool) → filter (λ t. matches f (target_in h t)) ids ≡ chosen (Some f) (map (target_in h) ids)
        → cond taken (t ∷ filter (λ t. matches f (target_in h t)) ids) (filter (λ t. matches f (target_in h t)) ids)
        ≡ map (λ (x : Target). x.id) (cond taken (target_in h t ∷ filter (matches f) (map (target_in h) ids)) (filter (matches f) (map (target_in h) ids)))
    go true ih = ap (λ ws. t ∷ ws) ih
    go false ih = ih

-- ---- tags

pub sorted_all : (ws : List Bytes) → IsSorted (sorted_words ws)
sorted_all [] = tt
sorted_all (w ∷ ws) = sorted_with w (sorted_words ws) (sorted_all ws)

by_row_sorted : (o : Option TargetRow) (ws : List Bytes) → IsSorted ws → IsSorted (tags_by_row o ws)
by_row_sorted o ws sorted = grind (arith, sorted_all)

either : (b : Bool) (ws vs : List Bytes) → IsSorted ws → IsSorted vs → IsSorted (cond b ws vs)
either b ws vs first second = grind arith

tags_sorted : (t : Bytes) (h : CommandList) → IsSorted (tags_in t h)
tags_sorted t (Make approval) = tt
tags_sorted t (h ▸ PutTargets rows) = by_row_sorted (last_row_for t rows) (tags_in t h) (tags_sorted t h)
tags_sorted t (h ▸ Tag u x) = either (same_bytes t u) _ _ (sorted_with x (tags_in t h) (tags_sorted t h)) (tags_sorted t h)
tags_sorted t (h ▸ Untag u x) = either (same_bytes t u) _ _ (sorted_without x (tags_in t h) (tags_sorted t h)) (tags_sorted t h)
tags_sorted t (h ▸ _) = tags_sorted t h

-- ---- members

chosen_sorted : (h : CommandList) (o : Option Tree) → IsSorted (chosen o (targets h))
chosen_sorted h None = tt
chosen_sorted h (Some f) = subst IsSorted (matching_are h f (target_ids h)) (sorted_some (λ t. matches f (target_in h t)) (target_ids h) (sorted_ids h))

members_sorted : (h : CommandList) → IsValid h → (r : ℕ) (x : Rollout) → rollout_at h r ≡ Some x → IsSorted x.members
members_sorted = each_created (λ x. IsSorted x.members) (λ h plan valid formed accepted. chosen_sorted h (filter_of plan.filter_text))

-- ---- the records

tags_rise : (h : CommandList) (t : Target) (o : Option Bytes) → option_map (target_in h) o ≡ Some t → RiseInBytes t.tags
tags_rise h t o e = grind (arith, sorted_rises, tags_sorted)

pub lists_rise_in_order : ListsRiseInOrder
unfolding records
lists_rise_in_order h valid = record {
  ids = sorted_rises _ (subst IsSorted (sym (ids_are h (target_ids h))) (sorted_ids h));
  tags = λ k t e. tags_rise h t (item_numbered (target_ids h) k) (sym (numbered_map (target_in h) (target_ids h) k) ∙ e);
  members = λ r y e. let of = of_rollout h r y e in
      subst (λ x. RiseInBytes x.members) (sym of.is) (sorted_rises of.rollout.members (members_sorted h valid r of.rollout of.there));
}
