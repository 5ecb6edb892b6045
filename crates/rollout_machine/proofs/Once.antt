-- A feedback on an action that has its outcome changes no record, and neither does an import that comes twice.
use Rattle.std.specs.Cmp.Lexicographic.{pointwise}
use native.Mathlib.Omega.{arith}
use Rattle.rollout_machine.proofs.Common.{List, [], ◌∷◌, ◌||◌, cond, Option, None, subst, inl, inr, ◌≡◌, Bool, true, false, ◌&&◌, refl, sym, ◌∙◌, ap, Some}
use Rattle.rollout_machine.proofs.Common.{answer, command_reply, Asked, Asks, Do, Ask, Refusal, ActionPlace, action_places, action_place}
use Rattle.rollout_machine.proofs.Common.{contains_word, with_words, same_bytes, with_word, CommandList, ◌▸◌, Make, Command, Feedback, Bytes}
use Rattle.rollout_machine.proofs.Common.{PutTargets, TargetRow, CancelFeedback, step_records, rollouts_in, action_in, needs_approval, modules, artifacts, sets}
use Rattle.rollout_machine.proofs.Common.{without_repeats, is_doubled, same_row, IsTraceless, is_had, RepeatsLeaveNoTrace, is_repeat, rollouts}
use Rattle.rollout_machine.proofs.Common.{target_in, last_row_of, tags_in, target_ids, targets, attributes_in, Target, last_row_for, tags_by_row, IsValid}
use Rattle.rollout_machine.proofs.Common.{verdict, check, option_or, unwrap_or, false≢true, cases_Bool, and_parts}
use Rattle.rollout_machine.specs.Requests.{Rejected}
use Rattle.rollout_machine.proofs.Answering.{rejected_answer, query_answer, refused_answer, accepted_step}
use Rattle.rollout_machine.specs.Records.{records}
use Rattle.std.specs.Prelude.{map, ⊤}
use Rattle.rollout_machine.proofs.Imports.{IsSorted, sorted_ids, never_with, with_there}
use Rattle.rollout_machine.proofs.TargetTies.{same_refl, same_true, has_with}
use Rattle.rollout_machine.proofs.EffectLaws.{calm_outcome}
use Rattle.rollout_machine.proofs.Actions.{calm_actions, append_none, map_same}
use Rattle.rollout_machine.proofs.Whole.{bare, calm_everywhere, had_changes_nothing, same_records}
use Rattle.rollout_machine.proofs.Induction.{accepted}
use Rattle.rollout_machine.proofs.Main.{records_step}

-- ---- an import that comes twice

abbrev AllIn : List Bytes → List Bytes → Type 0
AllIn [] vs = ⊤
AllIn (w ∷ ws) vs = (contains_word w vs ≡ true) × AllIn ws vs

same_with_all : (ws vs : List Bytes) → IsSorted vs → AllIn ws vs → with_words ws vs ≡ vs
same_with_all [] vs s a = refl
same_with_all (w ∷ ws) vs s a = ap (with_words ws) (with_there w vs s a.0) ∙ same_with_all ws vs s a.1

stays_in : (w : Bytes) (ws vs : List Bytes) → contains_word w vs ≡ true → contains_word w (with_words ws vs) ≡ true
stays_in w ws vs e = elim (cases_Bool (contains_word w (with_words ws vs))) [ inl t ↦ t | inr f ↦ absurd (false≢true (sym (never_with w ws vs f) ∙ e)) ]

all_in : (ws vs : List Bytes) → AllIn ws (with_words ws vs)
all_in [] vs = tt
all_in (w ∷ ws) vs = (stays_in w ws (with_word w vs) (has_with w w vs ∙ rw (same_refl w) refl), all_in ws (with_word w vs))

abbrev target_by : CommandList → Bytes → Option TargetRow → Option TargetRow → List Bytes → Target
target_by h t o r ws = record {
  id = t;
  name = unwrap_or (elim (option_or o r) [ None ↦ None | Some row ↦ Some row.name ]) [];
  digest = unwrap_or (elim (option_or o r) [ None ↦ None | Some row ↦ Some row.digest ]) [];
  tags = tags_by_row o ws;
  attributes = attributes_in t h;
}

twice_same : (h : CommandList) (t : Bytes) (o r : Option TargetRow) (ws : List Bytes) → target_by h t o (option_or o r) (tags_by_row o ws)
    ≡ target_by h t o r ws
twice_same h t o r ws = grind arith

targets_twice : (h : CommandList) (rows : List TargetRow) → targets (h ▸ PutTargets rows ▸ PutTargets rows) ≡ targets (h ▸ PutTargets rows)
targets_twice h rows =
    let ids : List Bytes = map (λ (row : TargetRow). row.id) rows in
    map_same (target_in (h ▸ PutTargets rows ▸ PutTargets rows)) (target_in (h ▸ PutTargets rows))
    (λ t. twice_same h t (last_row_for t rows) (last_row_of t h) (tags_in t h)) (with_words ids (with_words ids (target_ids h)))
    ∙ ap (map (target_in (h ▸ PutTargets rows)))
    (same_with_all ids (with_words ids (target_ids h)) (sorted_ids (h ▸ PutTargets rows)) (all_in ids (target_ids h)))

import_twice : (h : CommandList) (rows : List TargetRow) → IsValid (h ▸ PutTargets rows) → verdict (h ▸ PutTargets rows) (PutTargets rows) ≡ None
    → records (h ▸ PutTargets rows ▸ PutTargets rows) ≡ records (h ▸ PutTargets rows)
unfolding records
import_twice g rows v e =
    let h : CommandList = g ▸ PutTargets rows in
    let c : Command = PutTargets rows in
    same_records (needs_approval h) _ _ _ _ _ _ _ _ _ _ _ _ (append_none (modules h)) (append_none (artifacts h)) (append_none (sets h))
    (targets_twice g rows)
    (ap (rollouts_in (h ▸ c) 1) (append_none (rollouts h))
    ∙ calm_everywhere h c (accepted h c v e)
    (λ r. record { outcomes = λ j. calm_outcome h c r j refl; pauses = refl; resumes = refl; triggers = refl; starts = refl }) (λ r. refl))
    (ap (map (action_in (h ▸ c))) (append_none (action_places h)) ∙ calm_actions h c refl (action_places h))

-- ---- equality by tests

words_same : (ws vs : List Bytes) → pointwise same_bytes ws vs ≡ true → ws ≡ vs
words_same [] [] e = refl
words_same [] (v ∷ vs) e = cc
words_same (w ∷ ws) [] e = cc
words_same (w ∷ ws) (v ∷ vs) e =
    let parts : (same_bytes w v ≡ true) × (pointwise same_bytes ws vs ≡ true) = and_parts _ _ e in
    let head : w ≡ v = same_true w v parts.0 in
    let tail : ws ≡ vs = words_same ws vs parts.1 in
    rw (head, tail) refl

abbrev row_from : Bytes → Bytes → Bytes → List Bytes → TargetRow
row_from i n d ts = record { id = i; name = n; digest = d; tags = ts }

row_same : (a b : TargetRow) → same_row a b ≡ true → a ≡ b
row_same a b e =
    let one : (same_bytes a.id b.id ≡ true) × ((same_bytes a.name b.name && (same_bytes a.digest b.digest && pointwise same_bytes a.tags b.tags)) ≡ true) =
    and_parts _ _ e in
    let more : (same_bytes a.name b.name ≡ true) × ((same_bytes a.digest b.digest && pointwise same_bytes a.tags b.tags) ≡ true) = and_parts _ _ one.1 in
    let rest : (same_bytes a.digest b.digest ≡ true) × (pointwise same_bytes a.tags b.tags ≡ true) = and_parts _ _ more.1 in
    parts _ _ _ _ _ _ _ _ (same_true _ _ one.0) (same_true _ _ more.0) (same_true _ _ rest.0) (words_same _ _ rest.1)
  where
    parts : (i i' n n' d d' : Bytes) (ts ts' : List Bytes) → i ≡ i' → n ≡ n' → d ≡ d' → ts ≡ ts' → row_from i n d ts ≡ row_from i' n' d' ts'
    parts i i' n n' d d' ts ts' e f g k = rw (e, f, g, k) refl

rows_same : (as' bs : List TargetRow) → pointwise same_row as' bs ≡ true → as' ≡ bs
rows_same [] [] e = refl
rows_same [] (b ∷ bs) e = cc
rows_same (a ∷ as') [] e = cc
rows_same (a ∷ as') (b ∷ bs) e =
    let parts : (same_row a b ≡ true) × (pointwise same_row as' bs ≡ true) = and_parts _ _ e in
    let head : a ≡ b = row_same a b parts.0 in
    let tail : as' ≡ bs = rows_same as' bs parts.1 in
    ap (λ (x : TargetRow). x ∷ as') head ∙ ap (λ xs. b ∷ xs) tail

-- ---- the list without them

repeat_same : (h : CommandList) (c : Command) → IsValid h → verdict h c ≡ None → is_repeat h c ≡ true → records (h ▸ c) ≡ records h
unfolding records
repeat_same h (Feedback feedback) v e d = go (action_place h feedback.action) refl d
  where
    go : (p : Option ActionPlace) → action_place h feedback.action ≡ p → is_had h (Feedback feedback) p ≡ true → records (h ▸ Feedback feedback) ≡ records h
    go None k d = cc
    go (Some q) k d = bare h (Feedback feedback) _ _ _ _ _ (append_none (modules h)) (append_none (artifacts h)) (append_none (sets h))
        (append_none (rollouts h)) (append_none (action_places h)) ∙ had_changes_nothing h (Feedback feedback) q (accepted h (Feedback feedback) v e) k d
repeat_same h (CancelFeedback feedback) v e d = go (action_place h feedback.action) refl d
  where
    go : (p : Option ActionPlace) → action_place h feedback.action ≡ p → is_had h (CancelFeedback feedback) p ≡ true → records (h ▸ CancelFeedback feedback)
        ≡ records h
    go None k d = cc
    go (Some q) k d = bare h (CancelFeedback feedback) _ _ _ _ _ (append_none (modules h)) (append_none (artifacts h)) (append_none (sets h))
        (append_none (rollouts h)) (append_none (action_places h))
        ∙ had_changes_nothing h (CancelFeedback feedback) q (accepted h (CancelFeedback feedback) v e) k d
repeat_same h _ v e d = cc

doubled_same : (h : CommandList) (c : Command) → IsValid h → verdict h c ≡ None → is_doubled h c ≡ true → records (h ▸ c) ≡ records h
doubled_same (Make approval) c v e d = cc
doubled_same (h ▸ PutTargets rows) (PutTargets more) v e d =
    let same : rows ≡ more = rows_same rows more d in
    let P : List TargetRow → Type 0 = λ xs. verdict (h ▸ PutTargets rows) (PutTargets xs) ≡ None → records (h ▸ PutTargets rows ▸ PutTargets xs)
    ≡ records (h ▸ PutTargets rows) in
    let here : P rows = λ k. import_twice h rows v k in
    subst P same here e
doubled_same (h ▸ PutTargets rows) _ v e d = cc
doubled_same (h ▸ _) c v e d = cc

-- lists with the same records have the same answers
same_answers : (h k : CommandList) → IsValid h → IsValid k → records h ≡ records k → (asked : Asked) → answer h asked ≡ answer k asked
same_answers h k v w e (Rejected refusal) = rejected_answer h refusal ∙ sym (rejected_answer k refusal)
same_answers h k v w e (Asks (Ask query)) = grind (arith, query_answer)
same_answers h k v w e (Asks (Do c)) = go (verdict h c) refl
  where
    same : verdict h c ≡ verdict k c
    same = ap (λ rs. check rs c) e

    go : (o : Option Refusal) → verdict h c ≡ o → answer h (Asks (Do c)) ≡ answer k (Asks (Do c))
    go (Some refusal) d = refused_answer h c refusal d ∙ sym (refused_answer k c refusal (sym same ∙ d))
    go None d = accepted_step h c v d ∙ ap (λ rs. record { reply = command_reply c (step_records rs c); accepted = Some c }) e
        ∙ sym (accepted_step k c w (sym same ∙ d))

pub repeats_leave_no_trace : RepeatsLeaveNoTrace
repeats_leave_no_trace (Make approval) v = record { valid = tt; same = refl; verdicts = λ c. refl; answers = λ asked. refl }
repeats_leave_no_trace (h ▸ c) v = go (is_repeat h c) (is_doubled h c) refl refl (repeats_leave_no_trace h v.0)
  where
    traceless : (k : CommandList) → without_repeats (h ▸ c) ≡ k → IsValid k → records (h ▸ c) ≡ records k → IsTraceless (h ▸ c)
    traceless k e w s = record {
      valid = subst IsValid (sym e) w;
      same = s ∙ sym (ap records e);
      verdicts = λ d. ap (λ rs. check rs d) (s ∙ sym (ap records e));
      answers = same_answers (h ▸ c) (without_repeats (h ▸ c)) v (subst IsValid (sym e) w) (s ∙ sym (ap records e));
    }

    test : (a b : Bool) (x y : CommandList) → is_repeat h c ≡ a → is_doubled h c ≡ b → cond (is_repeat h c || is_doubled h c) x y ≡ cond (a || b) x y
    test a b x y e f = rw (e, f) refl

    go : (a b : Bool) → is_repeat h c ≡ a → is_doubled h c ≡ b → IsTraceless h → IsTraceless (h ▸ c)
    go true b e f ih = traceless (without_repeats h) (test true b (without_repeats h) (without_repeats h ▸ c) e f) ih.valid
        (repeat_same h c v.0 v.2 e ∙ ih.same)
    go false true e f ih = traceless (without_repeats h) (test false true (without_repeats h) (without_repeats h ▸ c) e f) ih.valid
        (doubled_same h c v.0 v.2 f ∙ ih.same)
    go false false e f ih =
        let here : verdict (without_repeats h) c ≡ None = sym (ih.verdicts c) ∙ v.2 in
        traceless (without_repeats h ▸ c) (test false false (without_repeats h) (without_repeats h ▸ c) e f) (ih.valid, v.1, here)
        (records_step h c v.0 v.2 ∙ ap (λ rs. step_records rs c) ih.same ∙ sym (records_step (without_repeats h) c ih.valid here))
