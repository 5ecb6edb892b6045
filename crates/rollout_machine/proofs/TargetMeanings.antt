-- Targets in words: who is there, by which row, and the values of their attributes.
use native.Mathlib.Omega.{arith}
use Rattle.rollout_machine.proofs.Common.{◌≡◌, Bool, true, false, cond, ◌||◌, List, [], ◌∷◌, ◌++◌, refl, sym, ◌∙◌, ap, subst, Option, Some, None, map, is_some}
use Rattle.rollout_machine.proofs.Common.{same_bytes, with_word, with_words, contains_word, bytes_below, Make, CommandList, ◌▸◌, followed_by, Attribute}
use Rattle.rollout_machine.proofs.Common.{PutAttributes, Bytes, PutTargets, TargetRow, Command, NotNamed, ValueIsLast, RowIsLast, last_given, TargetsAreNamed}
use Rattle.rollout_machine.proofs.Common.{NeverNamed, last_value, value_of, LastRow, with_attributes, with_attribute, import_rows_of, last_row_of, target_ids}
use Rattle.rollout_machine.proofs.Common.{last_row_for, attributes_in, option_or, false≢true}
use Rattle.rollout_machine.proofs.TargetTies.{same_by, same_sym, same_true, has_with}
use Rattle.rollout_machine.proofs.Meanings.{row_is_last}

-- ---- the last row

nobody : (t : Bytes) (rows : List TargetRow) → NotNamed t rows → last_row_for t rows ≡ None
nobody t [] w = refl
nobody t (row ∷ rows) w = rw (nobody t rows w.1, w.0) refl

found_row : (t : Bytes) (earlier later : List TargetRow) (row : TargetRow) → same_bytes row.id t ≡ true → NotNamed t later
    → last_row_for t (earlier ++ row ∷ later) ≡ Some row
found_row t [] later row e w = rw (nobody t later w, e) refl
found_row t (x ∷ earlier) later row e w = rw (found_row t earlier later row e w) refl

row_stays : (t : Bytes) (g : CommandList) (cs : List Command) (row : TargetRow) → NeverNamed t cs → last_row_of t g ≡ Some row
    → last_row_of t (followed_by g cs) ≡ Some row
row_stays t g [] row w e = e
row_stays t g (c ∷ cs) row w e = row_stays t (g ▸ c) cs row w.1 (rw (nobody t (import_rows_of c) w.0) e)

row_from : (h : CommandList) (t : Bytes) (row : TargetRow) → LastRow h t row → last_row_of t h ≡ Some row
row_from h t row w =
    let now : last_row_of t (w.before ▸ PutTargets (w.earlier ++ row ∷ w.later)) ≡ Some row = rw (found_row t w.earlier w.later row w.names w.last_in_command)
    refl in
    subst (λ (g : CommandList). last_row_of t g ≡ Some row) w.whole (row_stays t (w.before ▸ PutTargets (w.earlier ++ row ∷ w.later)) w.rest row w.last now)

pub row_is_the_last : RowIsLast
row_is_the_last h t row = (row_is_last h t row, row_from h t row)

-- ---- who is there

named_in : (t : Bytes) (rows : List TargetRow) (vs : List Bytes) → contains_word t (with_words (map (λ (row : TargetRow). row.id) rows) vs)
    ≡ (is_some (last_row_for t rows) || contains_word t vs)
named_in t [] vs = refl
named_in t (row ∷ rows) vs = grind (arith, named_in t rows (with_word row.id vs), has_with, same_sym)

pub targets_are_named : TargetsAreNamed
targets_are_named t (Make approval) = refl
targets_are_named t (h ▸ c) = named_in t (import_rows_of c) (target_ids h) ∙ ap (λ b. is_some (last_row_for t (import_rows_of c)) || b) (targets_are_named t h)
    ∙ joined (last_row_for t (import_rows_of c)) (last_row_of t h)
  where
    joined : (o p : Option TargetRow) → (is_some o || is_some p) ≡ is_some (option_or o p)
    joined None p = refl
    joined (Some x) p = refl

-- ---- attributes

value_with : (k : Bytes) (a : Attribute) (bs : List Attribute) → value_of k (with_attribute a bs) ≡ cond (same_bytes a.key k) (Some a.value) (value_of k bs)
value_with k a [] = refl
value_with k a (b ∷ bs) = go (same_bytes a.key b.key) (bytes_below a.key b.key) refl (value_with k a bs)
  where
    skips : (s t : Bool) → s ≡ t → cond s (Some a.value) (value_of k bs) ≡ cond s (Some a.value) (cond t (Some b.value) (value_of k bs))
    skips true t e = refl
    skips false true e = cc
    skips false false e = refl

    apart : (s t : Bool) → (s ≡ true → t ≡ true → ⊥) → cond t (Some b.value) (cond s (Some a.value) (value_of k bs))
        ≡ cond s (Some a.value) (cond t (Some b.value) (value_of k bs))
    apart true true e = absurd (e refl refl)
    apart true false e = refl
    apart false t e = refl

    go : (s b' : Bool) → same_bytes a.key b.key ≡ s → value_of k (with_attribute a bs) ≡ cond (same_bytes a.key k) (Some a.value) (value_of k bs)
        → value_of k (cond s (a ∷ bs) (cond b' (a ∷ b ∷ bs) (b ∷ with_attribute a bs)))
        ≡ cond (same_bytes a.key k) (Some a.value) (cond (same_bytes b.key k) (Some b.value) (value_of k bs))
    go true b' e ih = skips (same_bytes a.key k) (same_bytes b.key k) (ap (λ i. same_bytes i k) (same_true a.key b.key e))
    go false true e ih = refl
    go false false e ih = ap (λ o. cond (same_bytes b.key k) (Some b.value) o) ih
        ∙ apart (same_bytes a.key k) (same_bytes b.key k) (λ p q. false≢true (sym e ∙ same_by a.key b.key (same_true a.key k p ∙ sym (same_true b.key k q))))

values_with : (k : Bytes) (new bs : List Attribute) → value_of k (with_attributes new bs) ≡ option_or (last_given k new) (value_of k bs)
values_with k [] bs = refl
values_with k (a ∷ more) bs = grind (arith, values_with k more (with_attribute a bs), value_with)

pub value_is_last : ValueIsLast
value_is_last t k (Make approval) = refl
value_is_last t k (h ▸ PutAttributes device new) = go (same_bytes t device.id) (value_is_last t k h)
  where
    go : (s : Bool) → value_of k (attributes_in t h) ≡ last_value t k h → value_of k (cond s (with_attributes new (attributes_in t h)) (attributes_in t h))
        ≡ option_or (cond s (last_given k new) None) (last_value t k h)
    go true ih = values_with k new (attributes_in t h) ∙ ap (λ o. option_or (last_given k new) o) ih
    go false ih = ih
value_is_last t k (h ▸ _) = value_is_last t k h
