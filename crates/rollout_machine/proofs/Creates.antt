-- Approval, and the commands that make modules, artifacts, sets and rollouts.
use Rattle.rollout_machine.proofs.Common.{◌≡◌, ℕ, zero, suc, ◌+◌, ◌≤◌, Bool, true, false, cond, List, [], ◌∷◌, ◌++◌, refl, sym, ◌∙◌, ap, arith, Some}
use Rattle.rollout_machine.proofs.Common.{None, length, map, slice_get, ne_eqb, eq-eqb, action_of, action_places, outcome, CommandList, ◌▸◌}
use Rattle.rollout_machine.proofs.Common.{RolloutPlan, Upload, SetLabel, Command, AddArtifact, AddSet, CreateRollout, Approve, Deny, Outcome, Good, Bad, Gone}
use Rattle.rollout_machine.proofs.Common.{tally, is_outcome, is_paused, is_rollout_started, step_records, new_rollout, new_group, RolloutRecord, Approval}
use Rattle.rollout_machine.proofs.Common.{Waiting, Denied, Given, rollout_in, rollouts_in, action_in, group_in, approval_of, decision_on}
use Rattle.rollout_machine.proofs.Common.{needs_approval, modules, artifacts, sets, bounds_in, Rollout, rollouts, rollout_at, members_of, word_from}
use Rattle.rollout_machine.proofs.Common.{is_finished, IsValid, verdict, verdict_row, is_waiting}
use Rattle.rollout_machine.specs.Records.{records}
use Rattle.rollout_machine.proofs.Counts.{count_none}
use Rattle.rollout_machine.proofs.Tallies.{no_error_begins, none_is}
use Rattle.rollout_machine.proofs.EffectLaws.{calm_outcome}
use Rattle.rollout_machine.proofs.Ties.{IsCalm, calm_rollout, same_parts, same_group, same_each}
use Rattle.rollout_machine.proofs.Actions.{append_none, calm_actions}
use Rattle.rollout_machine.proofs.Whole.{IsAccepted, bare, on_rollout, rollout_step, calm_everywhere, same_records}
use Rattle.rollout_machine.proofs.Valid.{NoneHolds, none_holds}
use Rattle.rollout_machine.proofs.Induction.{Invariant, IsUnmade, invariant_of, accepted, found_rollout, word_at, never_started}

-- ---- approval

waits : (a : Approval) (b f p : Bool) → is_waiting (word_from a b f p) ≡ true → a ≡ Waiting
waits a b f p e = grind arith

decided_now : (h : CommandList) (q : ℕ) (c : Command) (d : Bool) → needs_approval (h ▸ c) ≡ needs_approval h → decision_on q c ≡ Some d → approval_of q h
    ≡ Waiting → approval_of q (h ▸ c) ≡ cond d Given Denied
decided_now h q c d n e w = grind arith

calm_about : (h : CommandList) (q r : ℕ) (c : Command) → action_of h c ≡ None → IsCalm r h (Approve q)
calm_about h q r c t = record { outcomes = λ j. calm_outcome h (Approve q) r j refl; pauses = refl; resumes = refl; triggers = refl; starts = refl }

pub approve_is_step : (h : CommandList) (q : ℕ) → IsValid h → verdict h (Approve q) ≡ None → records (h ▸ Approve q) ≡ step_records (records h) (Approve q)
unfolding records
approve_is_step h q v e =
    let row : NoneHolds (verdict_row (records h) (Approve q)) = none_holds (verdict_row (records h) (Approve q)) e in
    let (x, d) = found_rollout h q row.0 in
    let w : IsAccepted h (Approve q) = accepted h (Approve q) v e in
    let waiting : approval_of q h ≡ Waiting = waits (approval_of q h) (is_rollout_started q h) (is_finished (rollout_in h q x)) (is_paused x q h)
    (word_at h q is_waiting x d row.1.0) in
    let now : approval_of q (h ▸ Approve q) ≡ Given = decided_now h q (Approve q) true refl (rw (eq-eqb q q refl) refl) waiting in
    bare h (Approve q) _ _ _ _ _ (append_none (modules h)) (append_none (artifacts h)) (append_none (sets h)) (append_none (rollouts h))
    (append_none (action_places h))
    ∙ rollout_step h (Approve q) _ refl (on_rollout h (Approve q) q x (λ (y : RolloutRecord). record y { approval = Given }) w d
    (calm_rollout x q (w.last q) h (Approve q) Given (w.follows q x d) (w.started q x d) (calm_about h q q (Approve q) refl) now)
    (λ r ne. calm_about h q r (Approve q) refl) (λ r ne. rw (ne_eqb q r (λ s. ne (sym s))) refl))

pub deny_is_step : (h : CommandList) (q : ℕ) → IsValid h → verdict h (Deny q) ≡ None → records (h ▸ Deny q) ≡ step_records (records h) (Deny q)
unfolding records
deny_is_step h q v e =
    let row : NoneHolds (verdict_row (records h) (Deny q)) = none_holds (verdict_row (records h) (Deny q)) e in
    let (x, d) = found_rollout h q row.0 in
    let w : IsAccepted h (Deny q) = accepted h (Deny q) v e in
    let waiting : approval_of q h ≡ Waiting = waits (approval_of q h) (is_rollout_started q h) (is_finished (rollout_in h q x)) (is_paused x q h)
    (word_at h q is_waiting x d row.1.0) in
    let now : approval_of q (h ▸ Deny q) ≡ Denied = decided_now h q (Deny q) false refl (rw (eq-eqb q q refl) refl) waiting in
    bare h (Deny q) _ _ _ _ _ (append_none (modules h)) (append_none (artifacts h)) (append_none (sets h)) (append_none (rollouts h))
    (append_none (action_places h))
    ∙ rollout_step h (Deny q) _ refl (on_rollout h (Deny q) q x (λ (y : RolloutRecord). record y { approval = Denied }) w d
    (calm_rollout x q (w.last q) h (Deny q) Denied (w.follows q x d) (w.started q x d) (calm q) now)
    (λ r ne. calm r) (λ r ne. rw (ne_eqb q r (λ s. ne (sym s))) refl))
  where
    calm : (r : ℕ) → IsCalm r h (Deny q)
    calm r = record { outcomes = λ j. calm_outcome h (Deny q) r j refl; pauses = refl; resumes = refl; triggers = refl; starts = refl }

-- ---- artifacts and sets

pub artifact_is_step : (h : CommandList) (u : Upload) → IsValid h → verdict h (AddArtifact u) ≡ None → records (h ▸ AddArtifact u)
    ≡ step_records (records h) (AddArtifact u)
unfolding records
artifact_is_step h u v e = same_records (needs_approval h) _ _ _ _ _ _ _ _ _ _ _ _ (append_none (modules h)) refl (append_none (sets h)) refl
    (ap (rollouts_in (h ▸ AddArtifact u) 1) (append_none (rollouts h)) ∙ calm_everywhere h (AddArtifact u) (accepted h (AddArtifact u) v e)
    (λ r. record { outcomes = λ j. calm_outcome h (AddArtifact u) r j refl; pauses = refl; resumes = refl; triggers = refl; starts = refl }) (λ r. refl))
    (ap (map (action_in (h ▸ AddArtifact u))) (append_none (action_places h)) ∙ calm_actions h (AddArtifact u) refl (action_places h))

pub set_is_step : (h : CommandList) (s : SetLabel) → IsValid h → verdict h (AddSet s) ≡ None → records (h ▸ AddSet s) ≡ step_records (records h) (AddSet s)
unfolding records
set_is_step h s v e = same_records (needs_approval h) _ _ _ _ _ _ _ _ _ _ _ _ (append_none (modules h)) (append_none (artifacts h)) refl refl
    (ap (rollouts_in (h ▸ AddSet s) 1) (append_none (rollouts h))
    ∙ calm_everywhere h (AddSet s) (accepted h (AddSet s) v e)
    (λ r. record { outcomes = λ j. calm_outcome h (AddSet s) r j refl; pauses = refl; resumes = refl; triggers = refl; starts = refl }) (λ r. refl))
    (ap (map (action_in (h ▸ AddSet s))) (append_none (action_places h)) ∙ calm_actions h (AddSet s) refl (action_places h))

-- ---- a new rollout

rollouts_append : (h : CommandList) (a n : ℕ) (xs ys : List Rollout) → n ≡ length xs + a → rollouts_in h a (xs ++ ys) ≡ rollouts_in h a xs ++ rollouts_in h n ys
rollouts_append h a n [] ys e = let s : n ≡ a = omega arith in rw s refl
rollouts_append h a n (x ∷ xs) ys e = ap (λ zs. rollout_in h a x ∷ zs) (rollouts_append h (suc a) n xs ys (omega arith))

past_all : (xs : List Rollout) (i : ℕ) → length xs ≤ i → slice_get xs i ≡ None
past_all [] i e = refl
past_all (x ∷ xs) zero e = absurd (omega arith)
past_all (x ∷ xs) (suc i) e = past_all xs i (omega arith)

pub length_in : (h : CommandList) (a : ℕ) (xs : List Rollout) → length (rollouts_in h a xs) ≡ length xs
length_in h a [] = refl
length_in h a (x ∷ xs) = ap suc (length_in h (suc a) xs)

no_tally : (q : Outcome) (x : Rollout) (r i : ℕ) (h : CommandList) → ((j : ℕ) → outcome h r j ≡ None) → tally q x r i h ≡ 0
no_tally q x r i h e = count_none _ _ _ (λ j l u. ap (is_outcome q) (e j) ∙ none_is q)

made_new : (h : CommandList) (plan : RolloutPlan) (r : ℕ) → Invariant h → rollout_at h r ≡ None
    → rollout_in (h ▸ CreateRollout plan) r (record { plan = plan; members = members_of plan.filter_text h })
    ≡ new_rollout (needs_approval h) r plan (members_of plan.filter_text h)
made_new h plan r w none =
    let x : Rollout = record { plan = plan; members = members_of plan.filter_text h } in
    let c : Command = CreateRollout plan in
    let u : IsUnmade r h = w.unmade r none in
    let quiet : (j : ℕ) → outcome (h ▸ c) r j ≡ None = λ j. calm_outcome h c r j refl ∙ (w.fresh r u.started).outcome j in
    let still : is_rollout_started r (h ▸ c) ≡ false = rw u.started refl in
    same_parts r x _ _ _ _ _ _ _ _ (rw u.decided refl) still (rw (no_error_begins x r h c (λ j. calm_outcome h c r j refl), u.paused x) refl)
    (same_each (group_in x r (h ▸ c)) (new_group plan (length x.members)) 1 plan.groups.count (λ i a b.
    same_group i (bounds_in x i) _ _ _ _ _ _ _ _ (never_started x r i (h ▸ c) still) (no_tally Good x r i (h ▸ c) quiet) (no_tally Bad x r i (h ▸ c) quiet)
    (no_tally Gone x r i (h ▸ c) quiet)))

pub create_is_step : (h : CommandList) (plan : RolloutPlan) → IsValid h → verdict h (CreateRollout plan) ≡ None → records (h ▸ CreateRollout plan)
    ≡ step_records (records h) (CreateRollout plan)
unfolding records
create_is_step h plan v e =
    let c : Command = CreateRollout plan in
    let x : Rollout = record { plan = plan; members = members_of plan.filter_text h } in
    let n : ℕ = suc (length (rollouts h)) in
    let w : Invariant h = invariant_of h v in
    same_records (needs_approval h) _ _ _ _ _ _ _ _ _ _ _ _ (append_none (modules h)) (append_none (artifacts h)) (append_none (sets h)) refl
    (rollouts_append (h ▸ c) 1 n (rollouts h) (x ∷ []) (omega arith)
    ∙ ap (λ xs. xs ++ rollouts_in (h ▸ c) n (x ∷ []))
    (calm_everywhere h c (accepted h c v e)
    (λ r. record { outcomes = λ j. calm_outcome h c r j refl; pauses = refl; resumes = refl; triggers = refl; starts = refl }) (λ r. refl))
    ∙ ap (λ y. rollouts_in h 1 (rollouts h) ++ y ∷ []) (made_new h plan n w (past_all (rollouts h) (length (rollouts h)) (omega arith)))
    ∙ ap (λ k. rollouts_in h 1 (rollouts h) ++ new_rollout (needs_approval h) (suc k) plan (members_of plan.filter_text h) ∷ [])
    (sym (length_in h 1 (rollouts h))))
    (ap (map (action_in (h ▸ c))) (append_none (action_places h)) ∙ calm_actions h c refl (action_places h))
