-- The targets of accepted commands keep their rules: of their tags, that they are few words and none stands twice.
use Rattle.desk_reads.proofs.Common.{◌≡◌, ◌⊎◌, inl, ◌≤◌, ◌<◌, suc, true, false, nat_eq, List, [], ◌∷◌, length, map, find, Option, Some, None, refl, arith}
use Rattle.desk_reads.proofs.Common.{and_parts, and_from, le-leb, leb-false, leb-true, contains_word, same_bytes, sorted_words, with_word, without_word}
use Rattle.desk_reads.proofs.Common.{CommandList, Make, ◌▸◌, Target, attributes_in, last_row_for, last_row_of, tags_by_row, tags_in, target_ids, target_in}
use Rattle.desk_reads.proofs.Common.{with_attribute, with_attributes, IsSorted, AllAbove, below_apart, sorted_with, with_there, IsValid, tags_of, target_of}
use Rattle.desk_reads.proofs.Common.{verdict, verdict_row, pointwise, list_all, list_any, is_some, Has, same_by, same_pointwise, same_sym, same_true}
use Rattle.desk_reads.proofs.Common.{none_holds, Attribute, Bytes, PutAttributes, PutTargets, Tag, TargetRow, Untag, is_target_row, are_distinct_words}
use Rattle.desk_reads.proofs.Common.{is_tag_list, is_word, has_mapped}
use Rattle.rollout_machine.proofs.Orders.{sorted_all, sorted_without}
use Rattle.rollout_machine.proofs.TargetMeanings.{targets_are_named}
use Rattle.rollout_machine.specs.Records.{records}
use Rattle.rollout_model.specs.Limits.{limits}
use Rattle.rollout_model.specs.Pairs.{is_attribute}
use Rattle.desk_store.proofs.ReadableTargets.{KeepsTarget}
use Rattle.desk_reads.proofs.ListMembers.{target_words}

-- ---- words in byte order

none_again : (w : Bytes) (vs : List Bytes) → AllAbove w vs → list_any (λ v. pointwise nat_eq v w) vs ≡ false
none_again w [] above = refl
none_again w (v ∷ vs) above = grind (arith, none_again w vs above.1, same_pointwise v w, same_sym v w, below_apart w v above.0)

distinct : (ws : List Bytes) → IsSorted ws → are_distinct_words ws ≡ true
distinct [] sorted = refl
distinct (w ∷ ws) sorted = rw (none_again w ws sorted.0) (distinct ws sorted.1)

words_with : (w : Bytes) (vs : List Bytes) → is_word w ≡ true → list_all is_word vs ≡ true → list_all is_word (with_word w vs) ≡ true
words_with w [] one all = and_from (is_word w) true one refl
words_with w (v ∷ vs) one all = grind (arith, words_with w vs one, and_parts, and_from)

words_without : (w : Bytes) (vs : List Bytes) → list_all is_word vs ≡ true → list_all is_word (without_word w vs) ≡ true
words_without w [] all = refl
words_without w (v ∷ vs) all = grind (arith, words_without w vs, and_parts, and_from)

words_sorted : (ws : List Bytes) → list_all is_word ws ≡ true → list_all is_word (sorted_words ws) ≡ true
words_sorted [] all = refl
words_sorted (w ∷ ws) all = grind (arith, words_sorted ws, and_parts, words_with)

length_with : (w : Bytes) (vs : List Bytes) → length (with_word w vs) ≤ suc (length vs)
length_with w [] = omega arith
length_with w (v ∷ vs) = grind (arith, length_with w vs)

length_without : (w : Bytes) (vs : List Bytes) → length (without_word w vs) ≤ length vs
length_without w [] = omega arith
length_without w (v ∷ vs) = grind (arith, length_without w vs)

length_sorted : (ws : List Bytes) → length (sorted_words ws) ≤ length ws
length_sorted [] = omega arith
length_sorted (w ∷ ws) = omega (arith, length_with w (sorted_words ws), length_sorted ws)

-- ---- tags

pub record KeepsTags (ws : List Bytes) : Type 0 where
  pub few : length ws ≤ limits.tags
  pub words : list_all is_word ws ≡ true
  pub sorted : IsSorted ws

pub tags_are_list : (ws : List Bytes) → KeepsTags ws → is_tag_list ws ≡ true
tags_are_list ws keeps = grind (arith, and_from, le-leb, distinct)

-- the tags of a row that keeps its rule
row_tags : (row : TargetRow) → is_target_row row ≡ true → KeepsTags (sorted_words row.tags)
row_tags row good = grind (arith, and_parts, leb-true, length_sorted, words_sorted, sorted_all)

-- the last row that names a target is one of them
pub row_for : (t : Bytes) (rows : List TargetRow) → list_all is_target_row rows ≡ true → (row : TargetRow) → last_row_for t rows ≡ Some row → is_target_row row
    ≡ true
row_for t [] good row is = absurd cc
row_for t (r ∷ rows) good row is = grind (arith, row_for t rows, and_parts)

with_tag : (x : Bytes) (ws : List Bytes) → KeepsTags ws → is_word x ≡ true → (contains_word x ws ≡ false → length ws < limits.tags) → KeepsTags (with_word x ws)
with_tag x ws keeps word room = grind (arith, with_there, room, length_with, words_with, sorted_with)

-- ---- what is found of a target

pub found_target : (h : CommandList) (t : Bytes) (ids : List Bytes) → (find (λ (x : Target). same_bytes x.id t) (map (target_in h) ids) ≡ None)
    ⊎ (find (λ (x : Target). same_bytes x.id t) (map (target_in h) ids) ≡ Some (target_in h t))
found_target h t [] = inl refl
found_target h t (u ∷ ids) = grind (arith, found_target h t ids, same_true u t)

-- an accepted tag has room
room : (h : CommandList) (u x : Bytes) → verdict h (Tag u x) ≡ None → contains_word x (tags_in u h) ≡ false → length (tags_in u h) < limits.tags
unfolding records
room h u x accepted new = grind (arith, found_target h u (target_ids h), none_holds (verdict_row (records h) (Tag u x)) accepted, leb-false)

-- ---- the law

by_row : (found : Option TargetRow) (ws : List Bytes) → ((row : TargetRow) → found ≡ Some row → is_target_row row ≡ true) → KeepsTags ws
    → KeepsTags (tags_by_row found ws)
by_row None ws good keeps = keeps
by_row (Some row) ws good keeps = row_tags row (good row refl)

pub keeps_tags : (h : CommandList) → IsValid h → (t : Bytes) → KeepsTags (tags_in t h)
keeps_tags (Make approval) valid t = record { few = omega arith; words = refl; sorted = tt }
keeps_tags (h ▸ PutTargets rows) valid t = by_row (last_row_for t rows) (tags_in t h) (row_for t rows valid.1) (keeps_tags h valid.0 t)
keeps_tags (h ▸ Tag u x) valid t =
    grind (arith, keeps_tags h valid.0 t, with_tag x (tags_in t h), and_parts (is_word u) (is_word x) valid.1, same_true t u, room h u x valid.2)
keeps_tags (h ▸ Untag u x) valid t =
    grind (arith, keeps_tags h valid.0 t, length_without x (tags_in t h), words_without x (tags_in t h), sorted_without x (tags_in t h))
keeps_tags (h ▸ _) valid t = keeps_tags h valid.0 t

pub tags_keep : (h : CommandList) → IsValid h → (t : Bytes) → is_tag_list (tags_of (target_of (records h) t)) ≡ true
unfolding records
tags_keep h valid t = grind (arith, found_target h t (target_ids h), tags_are_list, keeps_tags h valid t)

-- ---- the row and the attributes of a target

last_keeps : (h : CommandList) → IsValid h → (t : Bytes) (row : TargetRow) → last_row_of t h ≡ Some row → is_target_row row ≡ true
last_keeps (Make approval) valid t row is = absurd cc
last_keeps (h ▸ c) valid t row is = grind (arith, last_keeps h valid.0 t row, row_for)

contains_it : (t : Bytes) (ws : List Bytes) → Has ws t → contains_word t ws ≡ true
contains_it t [] among = absurd among
contains_it t (w ∷ ws) among = grind (arith, contains_it t ws, same_by)

-- a target that is there has one
has_last : (h : CommandList) (t : Bytes) → Has (target_ids h) t → (row : TargetRow) × (last_row_of t h ≡ Some row)
has_last h t among = grind (arith, targets_are_named, contains_it, is_some)

attributes_with : (a : Attribute) (bs : List Attribute) → is_attribute a ≡ true → list_all is_attribute bs ≡ true → list_all is_attribute (with_attribute a bs)
    ≡ true
attributes_with a [] one all = and_from (is_attribute a) true one refl
attributes_with a (b ∷ bs) one all = grind (arith, attributes_with a bs one, and_parts, and_from)

all_attributes_with : (new bs : List Attribute) → list_all is_attribute new ≡ true → list_all is_attribute bs ≡ true
    → list_all is_attribute (with_attributes new bs) ≡ true
all_attributes_with [] bs good all = all
all_attributes_with (a ∷ more) bs good all = grind (arith, all_attributes_with more (with_attribute a bs), and_parts, attributes_with)

attributes_keep : (h : CommandList) → IsValid h → (t : Bytes) → list_all is_attribute (attributes_in t h) ≡ true
attributes_keep (Make approval) valid t = refl
attributes_keep (h ▸ PutAttributes device new) valid t = grind (arith, attributes_keep h valid.0 t, and_parts, all_attributes_with)
attributes_keep (h ▸ _) valid t = attributes_keep h valid.0 t

target_keeps : (h : CommandList) → IsValid h → (t : Bytes) → Has (target_ids h) t → KeepsTarget (target_in h t)
target_keeps h valid t among =
    let last = has_last h t among in
    grind (arith, and_parts, target_words h valid t among, last_keeps h valid t last.0 last.1, last.1, keeps_tags h valid t, attributes_keep h valid t)

pub targets_keep : (h : CommandList) → IsValid h → (x : Target) → Has (records h).targets x → KeepsTarget x
unfolding records
targets_keep h valid x among = grind (arith, has_mapped, target_keeps)
