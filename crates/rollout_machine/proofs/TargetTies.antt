-- The targets' records after a change of their tags or attributes.
use Rattle.rollout_machine.proofs.Common.{◌≡◌, arith, Bool, true, false, cond, ◌||◌, ◌&&◌, not, List, [], ◌∷◌, refl, sym, ◌∙◌, ap, Option, Some, None}
use Rattle.rollout_machine.proofs.Common.{map, nat_eq, inl, inr, unwrap_or, cases_Bool, eq-eqb, eqb-true, false≢true, and_parts, action_places}
use Rattle.rollout_machine.proofs.Common.{same_bytes, bytes_below, contains_word, with_word, without_word, sorted_words, CommandList, Make, ◌▸◌, Bytes}
use Rattle.rollout_machine.proofs.Common.{Credential, Attribute, TargetRow, Command, PutTargets, Tag, Untag, PutAttributes, TagsAreSaid, step_records}
use Rattle.rollout_machine.proofs.Common.{change_target, rollouts_in, action_in, needs_approval, modules, artifacts, sets, rollouts, Target, target_in}
use Rattle.rollout_machine.proofs.Common.{target_ids, tags_in, tags_by_row, has_tag, tag_in_row, last_row_for, attributes_in, with_attributes, IsValid, verdict}
use Rattle.std.specs.Cmp.Lexicographic.{pointwise}
use Rattle.rollout_machine.specs.Records.{records}
use Rattle.rollout_machine.proofs.EffectLaws.{calm_outcome}
use Rattle.rollout_machine.proofs.Actions.{append_none, calm_actions, map_same, map_twice}
use Rattle.rollout_machine.proofs.Whole.{calm_everywhere, same_records}
use Rattle.rollout_machine.proofs.Induction.{accepted}

changed_targets : (h : CommandList) (c : Command) (u : Bytes) (f : Target → Target)
    → ((t : Bytes) → target_in (h ▸ c) t ≡ cond (same_bytes t u) (f (target_in h t)) (target_in h t)) → (ids : List Bytes) → map (target_in (h ▸ c)) ids
    ≡ change_target u f (map (target_in h) ids)
changed_targets h c u f e ids = grind (arith, map_same, map_twice)

tag_in : (h : CommandList) (u x t : Bytes) → target_in (h ▸ Tag u x) t ≡ cond (same_bytes t u) (record (target_in h t) { tags = with_word x (tags_in t h) })
    (target_in h t)
tag_in h u x t = grind arith

untag_in : (h : CommandList) (u x t : Bytes) → target_in (h ▸ Untag u x) t
    ≡ cond (same_bytes t u) (record (target_in h t) { tags = without_word x (tags_in t h) }) (target_in h t)
untag_in h u x t = grind arith

attributes_of : (h : CommandList) (device : Credential) (new : List Attribute) (t : Bytes) → target_in (h ▸ PutAttributes device new) t
    ≡ cond (same_bytes t device.id) (record (target_in h t) { attributes = with_attributes new (attributes_in t h) }) (target_in h t)
attributes_of h device new t = grind arith

pub tag_is_step : (h : CommandList) (u x : Bytes) → IsValid h → verdict h (Tag u x) ≡ None → records (h ▸ Tag u x) ≡ step_records (records h) (Tag u x)
unfolding records
tag_is_step h u x v e = same_records (needs_approval h) _ _ _ _ _ _ _ _ _ _ _ _ (append_none (modules h)) (append_none (artifacts h)) (append_none (sets h))
    (changed_targets h (Tag u x) u (λ (t : Target). record t { tags = with_word x t.tags }) (tag_in h u x) (target_ids h))
    (ap (rollouts_in (h ▸ Tag u x) 1) (append_none (rollouts h))
    ∙ calm_everywhere h (Tag u x) (accepted h (Tag u x) v e)
    (λ r. record { outcomes = λ j. calm_outcome h (Tag u x) r j refl; pauses = refl; resumes = refl; triggers = refl; starts = refl }) (λ r. refl))
    (ap (map (action_in (h ▸ Tag u x))) (append_none (action_places h)) ∙ calm_actions h (Tag u x) refl (action_places h))

pub untag_is_step : (h : CommandList) (u x : Bytes) → IsValid h → verdict h (Untag u x) ≡ None → records (h ▸ Untag u x) ≡ step_records (records h) (Untag u x)
unfolding records
untag_is_step h u x v e = same_records (needs_approval h) _ _ _ _ _ _ _ _ _ _ _ _ (append_none (modules h)) (append_none (artifacts h)) (append_none (sets h))
    (changed_targets h (Untag u x) u (λ (t : Target). record t { tags = without_word x t.tags }) (untag_in h u x) (target_ids h))
    (ap (rollouts_in (h ▸ Untag u x) 1) (append_none (rollouts h))
    ∙ calm_everywhere h (Untag u x) (accepted h (Untag u x) v e)
    (λ r. record { outcomes = λ j. calm_outcome h (Untag u x) r j refl; pauses = refl; resumes = refl; triggers = refl; starts = refl }) (λ r. refl))
    (ap (map (action_in (h ▸ Untag u x))) (append_none (action_places h)) ∙ calm_actions h (Untag u x) refl (action_places h))

pub attributes_is_step : (h : CommandList) (device : Credential) (new : List Attribute) → IsValid h → verdict h (PutAttributes device new) ≡ None
    → records (h ▸ PutAttributes device new) ≡ step_records (records h) (PutAttributes device new)
unfolding records
attributes_is_step h device new v e =
    let c : Command = PutAttributes device new in
    same_records (needs_approval h) _ _ _ _ _ _ _ _ _ _ _ _ (append_none (modules h)) (append_none (artifacts h)) (append_none (sets h))
    (changed_targets h c device.id (λ (t : Target). record t { attributes = with_attributes new t.attributes }) (attributes_of h device new) (target_ids h))
    (ap (rollouts_in (h ▸ c) 1) (append_none (rollouts h))
    ∙ calm_everywhere h c (accepted h c v e)
    (λ r. record { outcomes = λ j. calm_outcome h c r j refl; pauses = refl; resumes = refl; triggers = refl; starts = refl }) (λ r. refl))
    (ap (map (action_in (h ▸ c))) (append_none (action_places h)) ∙ calm_actions h c refl (action_places h))

-- ---- the list of tags has the words that the last command on them gave

pub same_refl : (w : Bytes) → same_bytes w w ≡ true
same_refl [] = refl
same_refl (x ∷ xs) = rw (eq-eqb x x refl, same_refl xs) refl

pub same_true : (w v : Bytes) → same_bytes w v ≡ true → w ≡ v
same_true [] [] e = refl
same_true [] (y ∷ ys) e = cc
same_true (x ∷ xs) [] e = cc
same_true (x ∷ xs) (y ∷ ys) e =
    let parts : (nat_eq x y ≡ true) × (same_bytes xs ys ≡ true) = and_parts _ _ e in
    let head : x ≡ y = eqb-true x y parts.0 in
    let tail : xs ≡ ys = same_true xs ys parts.1 in
    rw (head, tail) refl

pub same_by : (w v : Bytes) → w ≡ v → same_bytes w v ≡ true
same_by w v e = rw e (same_refl v)

pub same_sym : (w v : Bytes) → same_bytes w v ≡ same_bytes v w
same_sym [] [] = refl
same_sym [] (y ∷ ys) = refl
same_sym (x ∷ xs) [] = refl
same_sym (x ∷ xs) (y ∷ ys) = grind (arith, same_sym xs ys)

-- as the code compares them
pub same_pointwise : (w v : Bytes) → pointwise nat_eq w v ≡ same_bytes w v
same_pointwise [] [] = refl
same_pointwise [] (y ∷ ys) = refl
same_pointwise (x ∷ xs) [] = refl
same_pointwise (x ∷ xs) (y ∷ ys) = ap (λ b. nat_eq x y && b) (same_pointwise xs ys)

pub has_with : (x y : Bytes) (ws : List Bytes) → contains_word x (with_word y ws) ≡ (same_bytes x y || contains_word x ws)
has_with x y [] = refl
has_with x y (v ∷ vs) = go (has_with x y vs) (same_bytes y v) (bytes_below y v) refl
  where
    swap : (a b c : Bool) → (b || (a || c)) ≡ (a || (b || c))
    swap true true c = refl
    swap true false c = refl
    swap false true c = refl
    swap false false c = refl

    twice : (a c : Bool) → (a || c) ≡ (a || (a || c))
    twice true c = refl
    twice false c = refl

    go : contains_word x (with_word y vs) ≡ (same_bytes x y || contains_word x vs) → (s b : Bool) → same_bytes y v ≡ s
        → contains_word x (cond s (v ∷ vs) (cond b (y ∷ v ∷ vs) (v ∷ with_word y vs))) ≡ (same_bytes x y || (same_bytes x v || contains_word x vs))
    go rest true b e = let same : y ≡ v = same_true y v e in rw same (twice (same_bytes x v) (contains_word x vs))
    go rest false true e = refl
    go rest false false e = ap (λ t. same_bytes x v || t) rest ∙ swap (same_bytes x y) (same_bytes x v) (contains_word x vs)

pub has_without : (x y : Bytes) (ws : List Bytes) → contains_word x (without_word y ws) ≡ (not (same_bytes x y) && contains_word x ws)
has_without x y [] = false_right (not (same_bytes x y))
  where
    false_right : (b : Bool) → false ≡ (b && false)
    false_right true = refl
    false_right false = refl
has_without x y (v ∷ vs) = go (has_without x y vs) (same_bytes y v) (same_bytes x v) refl refl
  where
    go : contains_word x (without_word y vs) ≡ (not (same_bytes x y) && contains_word x vs) → (s t : Bool) → same_bytes y v ≡ s → same_bytes x v ≡ t
        → contains_word x (cond s (without_word y vs) (v ∷ without_word y vs)) ≡ (not (same_bytes x y) && (t || contains_word x vs))
    go rest true true e d =
        let ev : y ≡ v = same_true y v e in
        let xv : x ≡ v = same_true x v d in
        let xy : same_bytes x y ≡ true = rw (xv, ev) (same_refl v) in
        rest ∙ rw xy refl
    go rest true false e d = rest
    go rest false true e d =
        let xv : x ≡ v = same_true x v d in
        let other : same_bytes x y ≡ false =
        elim (cases_Bool (same_bytes x y)) [ inr f ↦ f | inl t ↦ absurd (false≢true (sym e ∙ same_by y v (sym (same_true x y t) ∙ xv))) ] in
        rw (d, other) refl
    go rest false false e d = rw d rest

pub has_sorted : (x : Bytes) (ws : List Bytes) → contains_word x (sorted_words ws) ≡ contains_word x ws
has_sorted x [] = refl
has_sorted x (w ∷ ws) = has_with x w (sorted_words ws) ∙ ap (λ t. same_bytes x w || t) (has_sorted x ws)

tag_law_row : (x : Bytes) (o : Option TargetRow) (ws : List Bytes) (b : Bool) → contains_word x ws ≡ b → contains_word x (tags_by_row o ws)
    ≡ unwrap_or (tag_in_row x o) b
tag_law_row x o ws b e = grind (arith, has_sorted)

tag_law_tag : (x y : Bytes) (on : Bool) (ws : List Bytes) (b : Bool) → contains_word x ws ≡ b → contains_word x (cond on (with_word y ws) ws)
    ≡ unwrap_or (cond (on && same_bytes x y) (Some true) None) b
tag_law_tag x y on ws b e = grind (arith, has_with)

tag_law_untag : (x y : Bytes) (on : Bool) (ws : List Bytes) (b : Bool) → contains_word x ws ≡ b → contains_word x (cond on (without_word y ws) ws)
    ≡ unwrap_or (cond (on && same_bytes x y) (Some false) None) b
tag_law_untag x y on ws b e = grind (arith, has_without)

-- a word is in the list of tags exactly where the last command that spoke of it said so
pub tags_are : TagsAreSaid
tags_are t x (Make approval) = refl
tags_are t x (h ▸ PutTargets rows) = tag_law_row x (last_row_for t rows) (tags_in t h) (has_tag t x h) (tags_are t x h)
tags_are t x (h ▸ Tag u y) = tag_law_tag x y (same_bytes t u) (tags_in t h) (has_tag t x h) (tags_are t x h)
tags_are t x (h ▸ Untag u y) = tag_law_untag x y (same_bytes t u) (tags_in t h) (has_tag t x h) (tags_are t x h)
tags_are t x (h ▸ _) = tags_are t x h
