-- The records after one more command are the step of the records before it.
use Rattle.rollout_machine.proofs.Common.{◌≡◌, ℕ, zero, suc, ◌+◌, ◌≤◌, Bool, true, false, cond, ◌&&◌, ◌||◌, List, [], ◌∷◌, ◌++◌, refl, sym, ◌∙◌, ap, ap₂, subst}
use Rattle.rollout_machine.proofs.Common.{arith, inl, inr, Option, Some, None, is_some, nat_eq, map, slice_get, or-true, option_map, cases_eq, cases_lt}
use Rattle.rollout_machine.proofs.Common.{ne_eqb, eq-eqb, eqb-true, false≢true, and_parts, ActionPlace, action_of, is_heard, is_on_action, is_action_place}
use Rattle.rollout_machine.proofs.Common.{outcome, outcome_given, cancel_stands, is_canceling, action_places, action_place, new_places, places_of, places_from}
use Rattle.rollout_machine.proofs.Common.{history, item_numbered, CommandList, ◌▸◌, Command, DeviceFeedback, DeploymentWord, CancelWord, AddModule, Cancel}
use Rattle.rollout_machine.proofs.Common.{Feedback, CancelFeedback, Resume, TriggerNext, Pause, Start, Outcome, ModuleLabel, SetLabel, IsLast, StartedOnly}
use Rattle.rollout_machine.proofs.Common.{HasSoundPlan, is_group_started, is_pause_of, is_resume_of, is_trigger_of, is_start_of, change_rollout, rollout_after}
use Rattle.rollout_machine.proofs.Common.{resumed, triggered, begin_rollout, rollouts_after_outcome, outcome_if_new, own_group, act_on, step_action}
use Rattle.rollout_machine.proofs.Common.{step_records, new_action, new_actions, ArtifactRecord, RolloutRecord, ActionRecord, Records, rollout_in, rollouts_in}
use Rattle.rollout_machine.proofs.Common.{action_in, approval_of, decision_on, needs_approval, modules, artifacts, sets, is_again, Rollout, rollouts}
use Rattle.rollout_machine.proofs.Common.{rollout_at, size_of, number_of_group, Target, targets}
use Rattle.rollout_machine.specs.Records.{records}
use Rattle.rollout_machine.proofs.Cuts.{IsOwnGroup, group_of, in_its_group}
use Rattle.rollout_machine.proofs.Tallies.{untouched, closed_stays, gives, quiet}
use Rattle.rollout_machine.proofs.Ties.{find_holding, IsFollowed, IsCalm, calm_rollout, outcome_rollout, resume_rollout, trigger_rollout, pause_rollout}
use Rattle.rollout_machine.proofs.Ties.{start_rollout, same_approval, silent}
use Rattle.rollout_machine.proofs.Actions.{append_none, all_actions, calm_actions, had_action, heard_open, map_same, numbered_map, map_append, on_own}
use Rattle.rollout_machine.proofs.Actions.{same_action}
use Rattle.rollout_machine.proofs.EffectLaws.{calm_outcome}

-- ---- over the list of rollouts

unfoldable pub AllNumbered : (ℕ → Rollout → Type 0) → ℕ → List Rollout → Type 0
AllNumbered P a [] = Unit {0}
AllNumbered P a (x ∷ xs) = P a x × (AllNumbered P (suc a) xs)

all_numbered : (P : ℕ → Rollout → Type 0) (a : ℕ) (xs : List Rollout) → ((i n : ℕ) (x : Rollout) → slice_get xs i ≡ Some x → n ≡ a + i → P n x)
    → AllNumbered P a xs
unfolding AllNumbered
all_numbered P a [] h = tt
all_numbered P a (x ∷ xs) h = (h 0 a x refl (omega arith), all_numbered P (suc a) xs (λ i n y e d. h (suc i) n y e (omega arith)))

pub from_numbers : (P : ℕ → Rollout → Type 0) (xs : List Rollout) → ((r : ℕ) (x : Rollout) → item_numbered xs r ≡ Some x → P r x) → AllNumbered P 1 xs
from_numbers P xs h = all_numbered P 1 xs (λ i n x e d. h n x (let s : n ≡ suc i = omega arith in rw s e))

changed : (q : ℕ) (f : RolloutRecord → RolloutRecord) (h h' : CommandList) (a : ℕ) (xs : List Rollout)
    → AllNumbered (λ r x. rollout_in h' r x ≡ cond (nat_eq r q) (f (rollout_in h r x)) (rollout_in h r x)) a xs → rollouts_in h' a xs
    ≡ change_rollout q f (rollouts_in h a xs)
unfolding AllNumbered
changed q f h h' a [] w = refl
changed q f h h' a (x ∷ xs) w = rw (w.0, changed q f h h' (suc a) xs w.1) refl

pub kept : (h h' : CommandList) (a : ℕ) (xs : List Rollout) → AllNumbered (λ r x. rollout_in h' r x ≡ rollout_in h r x) a xs → rollouts_in h' a xs
    ≡ rollouts_in h a xs
unfolding AllNumbered
kept h h' a [] w = refl
kept h h' a (x ∷ xs) w = rw (w.0, kept h h' (suc a) xs w.1) refl

get_rollout : (h : CommandList) (a i n : ℕ) (xs : List Rollout) (x : Rollout) → slice_get xs i ≡ Some x → n ≡ a + i → slice_get (rollouts_in h a xs) i
    ≡ Some (rollout_in h n x)
get_rollout h a i n [] x e d = cc
get_rollout h a zero n (y ∷ ys) x e d = let s : a ≡ n = omega arith in let t : y ≡ x = cc in ap₂ (λ m z. Some (rollout_in h m z)) s t
get_rollout h a (suc i) n (y ∷ ys) x e d = get_rollout h (suc a) i n ys x e (omega arith)

pub rollout_numbered : (h : CommandList) (r : ℕ) (x : Rollout) → rollout_at h r ≡ Some x → item_numbered (rollouts_in h 1 (rollouts h)) r
    ≡ Some (rollout_in h r x)
rollout_numbered h r x e = grind (arith, get_rollout)

-- ---- what accepted commands have

-- each rollout is followed, and the command is on actions of started groups alone
pub record IsAccepted (h : CommandList) (c : Command) : Type 0 where
  pub last : ℕ → ℕ
  pub follows : (r : ℕ) (x : Rollout) → rollout_at h r ≡ Some x → IsFollowed x r h (last r)
  pub started : (r : ℕ) (x : Rollout) → rollout_at h r ≡ Some x → StartedOnly x r h c

-- ---- a command on an action

pub same_outcomes : (h : CommandList) (c : Command) (q : ActionPlace) → action_of h c ≡ Some q → outcome (h ▸ c) q.rollout q.position
    ≡ outcome h q.rollout q.position → (r j : ℕ) → outcome (h ▸ c) r j ≡ outcome h r j
same_outcomes h c q t e r j = go (is_on_action h c r j) refl
  where
    go : (b : Bool) → is_on_action h c r j ≡ b → outcome (h ▸ c) r j ≡ outcome h r j
    go false f = untouched h c r j f
    go true f =
        let both : (nat_eq q.rollout r && nat_eq q.position j) ≡ true = sym (ap (λ o. is_action_place o r j) t) ∙ f in
        let parts : (nat_eq q.rollout r ≡ true) × (nat_eq q.position j ≡ true) = and_parts _ _ both in
        let er : q.rollout ≡ r = eqb-true _ _ parts.0 in
        let ej : q.position ≡ j = eqb-true _ _ parts.1 in
        sym (ap (λ i. outcome (h ▸ c) i j) er) ∙ sym (ap (λ i. outcome (h ▸ c) q.rollout i) ej) ∙ e ∙ ap (λ i. outcome h q.rollout i) ej
        ∙ ap (λ i. outcome h i j) er

other_rollout : (h : CommandList) (c : Command) (q : ActionPlace) → action_of h c ≡ Some q → (r : ℕ) → (q.rollout ≡ r → ⊥) → (j : ℕ) → outcome (h ▸ c) r j
    ≡ outcome h r j
other_rollout h c q t r ne j = untouched h c r j (ap (λ o. is_action_place o r j) t ∙ ap (λ b. b && nat_eq q.position j) (ne_eqb q.rollout r ne))

calm_at : (h : CommandList) (c : Command) (q : ActionPlace) (r : ℕ) → action_of h c ≡ Some q → ((j : ℕ) → outcome (h ▸ c) r j ≡ outcome h r j) → IsCalm r h c
calm_at h c q r t e =
    let s : (is_pause_of r c ≡ false) × (is_resume_of r c ≡ false) × (is_trigger_of r c ≡ false) × (is_start_of r c ≡ false) = quiet h c q r t in
    record { outcomes = e; pauses = s.0; resumes = s.1; triggers = s.2; starts = s.3 }

pub keeps : (h : CommandList) (c : Command) (q : ActionPlace) → IsAccepted h c → action_of h c ≡ Some q → (r : ℕ) (x : Rollout) → rollout_at h r ≡ Some x
    → ((j : ℕ) → outcome (h ▸ c) r j ≡ outcome h r j) → rollout_in (h ▸ c) r x ≡ rollout_in h r x
keeps h c q w t r x e o = calm_rollout x r (w.last r) h c (approval_of r h) (w.follows r x e) (w.started r x e) (calm_at h c q r t o)
    (same_approval r h c (silent h c q r t))

-- the action's rollout, when it gets the outcome o
gets : (o : Outcome) (h : CommandList) (c : Command) (q : ActionPlace) (x : Rollout) → IsAccepted h c → action_of h c ≡ Some q → rollout_at h q.rollout ≡ Some x
    → 1 ≤ q.position → q.position ≤ size_of x → outcome h q.rollout q.position ≡ None → outcome (h ▸ c) q.rollout q.position ≡ Some o
    → rollout_in (h ▸ c) q.rollout x ≡ rollout_after o (group_of x q.position) (rollout_in h q.rollout x)
gets o h c q x w t e a b was now =
    let f : IsFollowed x q.rollout h (w.last q.rollout) = w.follows q.rollout x e in
    let g : ℕ = group_of x q.position in
    let own : IsOwnGroup x g q.position = in_its_group x q.position f.sound a b in
    let on : is_on_action h c q.rollout q.position ≡ true = on_own h c q t in
    let st : is_group_started x q.rollout g h ≡ true = (w.started q.rollout x e).started g q.position own.first own.within on in
    outcome_rollout o x q.rollout g q.position (w.last q.rollout) h c f (w.started q.rollout x e) (some_last _ _ _ _ _ f.is_last own.first st)
    (record { on = t; within = own.within; first = own.first; last = own.last; was = was; now = now })
  where
    some_last : (x : Rollout) (r g l : ℕ) (h : CommandList) → IsLast x r h l → 1 ≤ g → is_group_started x r g h ≡ true → 1 ≤ l
    some_last x r g l h w a s = elim (cases_lt l g) [ inl more ↦ absurd (false≢true (sym (w.beyond g more) ∙ s)) | inr le ↦ omega arith ]

own_is : (h : CommandList) (q : ActionPlace) (x : Rollout) → HasSoundPlan x → rollout_at h q.rollout ≡ Some x → 1 ≤ q.position → q.position ≤ size_of x
    → own_group (item_numbered (rollouts_in h 1 (rollouts h)) q.rollout) (action_in h q) ≡ group_of x q.position
own_is h q x s e a b = ap (λ o. own_group o (action_in h q)) (rollout_numbered h q.rollout x e)
    ∙ ap number_of_group (find_holding x q.rollout h _ q.position s (in_its_group x q.position s a b))

pub act_rollouts : (h : CommandList) (c : Command) (q : ActionPlace) (x : Rollout) → IsAccepted h c → action_of h c ≡ Some q → rollout_at h q.rollout ≡ Some x
    → 1 ≤ q.position → q.position ≤ size_of x → is_again (history h q.rollout q.position) c ≡ false
    → rollouts_in (h ▸ c) 1 (rollouts h)
    ≡ rollouts_after_outcome (outcome_if_new (outcome h q.rollout q.position) (outcome_given c (is_canceling h q.rollout q.position)))
    (rollouts_in h 1 (rollouts h)) (action_in h q)
act_rollouts h c q x w t e a b new = go (outcome h q.rollout q.position) (outcome_given c (is_canceling h q.rollout q.position)) refl refl
  where
    calm : ((r j : ℕ) → outcome (h ▸ c) r j ≡ outcome h r j) → rollouts_in (h ▸ c) 1 (rollouts h) ≡ rollouts_in h 1 (rollouts h)
    calm o = kept h (h ▸ c) 1 (rollouts h) (from_numbers (λ r y. rollout_in (h ▸ c) r y ≡ rollout_in h r y) (rollouts h) (λ r y d. keeps h c q w t r y d (o r)))

    heard : outcome h q.rollout q.position ≡ None → is_heard h c q.rollout q.position ≡ true
    heard n = heard_open h c q.rollout q.position (on_own h c q t) n new

    same_given : outcome h q.rollout q.position ≡ None → outcome_given c (cancel_stands h q.rollout q.position)
        ≡ outcome_given c (is_canceling h q.rollout q.position)
    same_given n = rw n refl

    one : (o : Outcome) → outcome h q.rollout q.position ≡ None → outcome_given c (is_canceling h q.rollout q.position) ≡ Some o → (r : ℕ) (y : Rollout)
        → rollout_at h r ≡ Some y
        → rollout_in (h ▸ c) r y ≡ cond (nat_eq r q.rollout) (rollout_after o (group_of x q.position) (rollout_in h r y)) (rollout_in h r y)
    one o n gv r y d = elim (cases_eq r q.rollout) [
      | inr other ↦ (let test : nat_eq r q.rollout ≡ false = ne_eqb r q.rollout other in
          rw test (keeps h c q w t r y d (other_rollout h c q t r (λ s. other (sym s)))))
      | inl same ↦ (let P : ℕ → Rollout → Type 0 = λ s z. rollout_in (h ▸ c) s z
          ≡ cond (nat_eq s q.rollout) (rollout_after o (group_of x q.position) (rollout_in h s z)) (rollout_in h s z) in
          let now : outcome (h ▸ c) q.rollout q.position ≡ Some o = gives h c q.rollout q.position (heard n) n ∙ same_given n ∙ gv in
          let own : P q.rollout x = gets o h c q x w t e a b n now
          ∙ sym (ap (λ v. cond v (rollout_after o (group_of x q.position) (rollout_in h q.rollout x)) (rollout_in h q.rollout x))
          (eq-eqb q.rollout q.rollout refl)) in
          let options : Some y ≡ Some x = sym d ∙ ap (rollout_at h) same ∙ e in
          let rollout : y ≡ x = cc in
          subst (λ (s : ℕ). P s y) (sym same) (subst (λ (z : Rollout). P q.rollout z) (sym rollout) own))
    ]

    go : (o gv : Option Outcome) → outcome h q.rollout q.position ≡ o → outcome_given c (is_canceling h q.rollout q.position) ≡ gv
        → rollouts_in (h ▸ c) 1 (rollouts h) ≡ rollouts_after_outcome (outcome_if_new o gv) (rollouts_in h 1 (rollouts h)) (action_in h q)
    go (Some o) gv e1 e2 = calm (same_outcomes h c q t (closed_stays h c q.rollout q.position o e1 ∙ sym e1))
    go None None e1 e2 = calm (same_outcomes h c q t (gives h c q.rollout q.position (heard e1) e1 ∙ same_given e1 ∙ e2 ∙ sym e1))
    go None (Some o) e1 e2 =
        changed q.rollout (rollout_after o (group_of x q.position)) h (h ▸ c) 1 (rollouts h)
        (from_numbers (λ r y. rollout_in (h ▸ c) r y ≡ cond (nat_eq r q.rollout) (rollout_after o (group_of x q.position) (rollout_in h r y))
        (rollout_in h r y)) (rollouts h) (one o e1 e2))
        ∙ ap (λ g. change_rollout q.rollout (rollout_after o g) (rollouts_in h 1 (rollouts h))) (sym (own_is h q x (w.follows q.rollout x e).sound e a b))

-- ---- the whole records

abbrev pub records_from : Bool → List ModuleLabel → List ArtifactRecord → List SetLabel → List Target → List RolloutRecord → List ActionRecord → Records
records_from a ms us ss ts xs as' = record { approval = a; modules = ms; artifacts = us; sets = ss; targets = ts; rollouts = xs; actions = as' }

pub same_records : (a : Bool) (ms ms' : List ModuleLabel) (us us' : List ArtifactRecord) (ss ss' : List SetLabel) (ts ts' : List Target)
    (xs xs' : List RolloutRecord) (as' bs' : List ActionRecord)
    → ms ≡ ms' → us ≡ us' → ss ≡ ss' → ts ≡ ts' → xs ≡ xs' → as' ≡ bs' → records_from a ms us ss ts xs as' ≡ records_from a ms' us' ss' ts' xs' bs'
same_records a ms ms' us us' ss ss' ts ts' xs xs' as' bs' e1 e2 e3 e4 e5 e6 = rw (e1, e2, e3, e4, e5, e6) refl

-- the action that a command is on is there, and its member is
pub record IsPlaced (h : CommandList) (c : Command) (k : ℕ) : Type 0 where
  pub place : ActionPlace
  pub rollout : Rollout
  pub numbered : action_place h k ≡ Some place
  pub there : rollout_at h place.rollout ≡ Some rollout
  pub low : 1 ≤ place.position
  pub high : place.position ≤ size_of rollout

-- what finds its action closed, or is sent again, changes nothing
pub had_changes_nothing : (h : CommandList) (c : Command) (q : ActionPlace) → IsAccepted h c → action_of h c ≡ Some q
    → (is_some (outcome h q.rollout q.position) || is_again (history h q.rollout q.position) c) ≡ true
    → records_from (needs_approval h) (modules h) (artifacts h) (sets h) (targets h) (rollouts_in (h ▸ c) 1 (rollouts h))
    (map (action_in (h ▸ c)) (action_places h)) ≡ records h
unfolding records
had_changes_nothing h c q w t had =
    let stays : (p : ActionPlace) → action_in (h ▸ c) p ≡ action_in h p = had_action h c q t had in
    same_records (needs_approval h) _ _ _ _ _ _ _ _ _ _ _ _ refl refl refl refl
    (kept h (h ▸ c) 1 (rollouts h) (from_numbers (λ r y. rollout_in (h ▸ c) r y ≡ rollout_in h r y) (rollouts h) (λ r y d.
    keeps h c q w t r y d (same_outcomes h c q t (ap (λ (a : ActionRecord). a.outcome) (stays q)) r))))
    (map_same (action_in (h ▸ c)) (action_in h) stays (action_places h))

act_is : (h : CommandList) (c : Command) (k : ℕ) → IsAccepted h c → (p : IsPlaced h c k) → action_of h c ≡ Some p.place
    → records_from (needs_approval h) (modules h) (artifacts h) (sets h) (targets h) (rollouts_in (h ▸ c) 1 (rollouts h))
    (map (action_in (h ▸ c)) (action_places h)) ≡ step_action (records h) c (item_numbered (map (action_in h) (action_places h)) k)
unfolding records
act_is h c k w p t =
    let found : item_numbered (map (action_in h) (action_places h)) k ≡ Some (action_in h p.place) = numbered_map (action_in h) (action_places h) k
    ∙ ap (option_map (action_in h)) p.numbered in
    go (is_again (history h p.place.rollout p.place.position) c) refl ∙ sym (ap (step_action (records h) c) found)
  where
    go : (b : Bool) → is_again (history h p.place.rollout p.place.position) c ≡ b
        → records_from (needs_approval h) (modules h) (artifacts h) (sets h) (targets h) (rollouts_in (h ▸ c) 1 (rollouts h))
        (map (action_in (h ▸ c)) (action_places h)) ≡ cond b (records h) (act_on (records h) c (action_in h p.place))
    go true d = had_changes_nothing h c p.place w t (rw d (or-true (is_some (outcome h p.place.rollout p.place.position))))
    go false d = same_records (needs_approval h) _ _ _ _ _ _ _ _ _ _ _ _ refl refl refl refl (act_rollouts h c p.place p.rollout w t p.there p.low p.high d)
        (all_actions h c p.place t d (action_places h))

-- nothing is made: the rollouts and actions are those that were there
pub bare : (h : CommandList) (c : Command) → (ms : List ModuleLabel) (us : List ArtifactRecord) (ss : List SetLabel) (xs : List Rollout) (ps : List ActionPlace)
    → ms ≡ modules h → us ≡ artifacts h → ss ≡ sets h → xs ≡ rollouts h → ps ≡ action_places h
    → records_from (needs_approval h) ms us ss (targets h) (rollouts_in (h ▸ c) 1 xs) (map (action_in (h ▸ c)) ps)
    ≡ records_from (needs_approval h) (modules h) (artifacts h) (sets h) (targets h) (rollouts_in (h ▸ c) 1 (rollouts h))
    (map (action_in (h ▸ c)) (action_places h))
bare h c ms us ss xs ps e1 e2 e3 e4 e5 = rw (e1, e2, e3, e4, e5) refl

pub cancel_step : (h : CommandList) (t : List ℕ) (k : ℕ) (force : Bool) → IsAccepted h (Cancel t k force) → IsPlaced h (Cancel t k force) k
    → records (h ▸ Cancel t k force) ≡ step_records (records h) (Cancel t k force)
unfolding records
cancel_step h t k force w p = bare h (Cancel t k force) _ _ _ _ _ (append_none (modules h)) (append_none (artifacts h)) (append_none (sets h))
    (append_none (rollouts h)) (append_none (action_places h)) ∙ act_is h (Cancel t k force) k w p p.numbered

pub feedback_step : (h : CommandList) (feedback : DeviceFeedback DeploymentWord) → IsAccepted h (Feedback feedback)
    → IsPlaced h (Feedback feedback) feedback.action → records (h ▸ Feedback feedback) ≡ step_records (records h) (Feedback feedback)
unfolding records
feedback_step h feedback w p = bare h (Feedback feedback) _ _ _ _ _ (append_none (modules h)) (append_none (artifacts h)) (append_none (sets h))
    (append_none (rollouts h)) (append_none (action_places h)) ∙ act_is h (Feedback feedback) feedback.action w p p.numbered

pub cancel_feedback_step : (h : CommandList) (feedback : DeviceFeedback CancelWord) → IsAccepted h (CancelFeedback feedback)
    → IsPlaced h (CancelFeedback feedback) feedback.action → records (h ▸ CancelFeedback feedback) ≡ step_records (records h) (CancelFeedback feedback)
unfolding records
cancel_feedback_step h feedback w p = bare h (CancelFeedback feedback) _ _ _ _ _ (append_none (modules h)) (append_none (artifacts h)) (append_none (sets h))
    (append_none (rollouts h)) (append_none (action_places h)) ∙ act_is h (CancelFeedback feedback) feedback.action w p p.numbered

-- ---- a command on a rollout

pub on_rollout : (h : CommandList) (c : Command) (q : ℕ) (x : Rollout) (f : RolloutRecord → RolloutRecord) → IsAccepted h c → rollout_at h q ≡ Some x
    → rollout_in (h ▸ c) q x ≡ f (rollout_in h q x) → ((r : ℕ) → (r ≡ q → ⊥) → IsCalm r h c) → ((r : ℕ) → (r ≡ q → ⊥) → decision_on r c ≡ None)
    → rollouts_in (h ▸ c) 1 (rollouts h) ≡ change_rollout q f (rollouts_in h 1 (rollouts h))
on_rollout h c q x f w e own calm quiet' =
    changed q f h (h ▸ c) 1 (rollouts h)
    (from_numbers (λ r y. rollout_in (h ▸ c) r y ≡ cond (nat_eq r q) (f (rollout_in h r y)) (rollout_in h r y)) (rollouts h) one)
  where
    one : (r : ℕ) (y : Rollout) → rollout_at h r ≡ Some y → rollout_in (h ▸ c) r y ≡ cond (nat_eq r q) (f (rollout_in h r y)) (rollout_in h r y)
    one r y d = elim (cases_eq r q) [
      | inr other ↦ (let test : nat_eq r q ≡ false = ne_eqb r q other in
          rw test (calm_rollout y r (w.last r) h c (approval_of r h) (w.follows r y d) (w.started r y d) (calm r other) (same_approval r h c (quiet' r other))))
      | inl same ↦ (let P : ℕ → Rollout → Type 0 = λ s z. rollout_in (h ▸ c) s z ≡ cond (nat_eq s q) (f (rollout_in h s z)) (rollout_in h s z) in
          let at_q : P q x = own ∙ sym (ap (λ v. cond v (f (rollout_in h q x)) (rollout_in h q x)) (eq-eqb q q refl)) in
          let options : Some y ≡ Some x = sym d ∙ ap (rollout_at h) same ∙ e in
          let rollout : y ≡ x = cc in
          subst (λ (s : ℕ). P s y) (sym same) (subst (λ (z : Rollout). P q z) (sym rollout) at_q))
    ]

pub rollout_step : (h : CommandList) (c : Command) (xs : List RolloutRecord) → action_of h c ≡ None → rollouts_in (h ▸ c) 1 (rollouts h) ≡ xs
    → records_from (needs_approval h) (modules h) (artifacts h) (sets h) (targets h) (rollouts_in (h ▸ c) 1 (rollouts h))
    (map (action_in (h ▸ c)) (action_places h)) ≡ records_from (needs_approval h) (modules h) (artifacts h) (sets h) (targets h) xs
    (map (action_in h) (action_places h))
rollout_step h c xs t e = same_records (needs_approval h) _ _ _ _ _ _ _ _ _ _ _ _ refl refl refl refl e (calm_actions h c t (action_places h))

pub resume_step : (h : CommandList) (q : ℕ) (x : Rollout) → (w : IsAccepted h (Resume q)) → rollout_at h q ≡ Some x → 1 ≤ w.last q → records (h ▸ Resume q)
    ≡ step_records (records h) (Resume q)
unfolding records
resume_step h q x w e pos = bare h (Resume q) _ _ _ _ _ (append_none (modules h)) (append_none (artifacts h)) (append_none (sets h)) (append_none (rollouts h))
    (append_none (action_places h))
    ∙ rollout_step h (Resume q) _ refl (on_rollout h (Resume q) q x resumed w e (resume_rollout x q (w.last q) h (w.follows q x e) pos)
    (λ r ne. record {
      outcomes = λ j. calm_outcome h (Resume q) r j refl;
      pauses = refl;
      resumes = ne_eqb q r (λ s. ne (sym s));
      triggers = refl;
      starts =
          refl;
    }) (λ r ne. refl))

pub trigger_step : (h : CommandList) (q : ℕ) (x : Rollout) → (w : IsAccepted h (TriggerNext q)) → rollout_at h q ≡ Some x → 1 ≤ w.last q
    → records (h ▸ TriggerNext q) ≡ step_records (records h) (TriggerNext q)
unfolding records
trigger_step h q x w e pos = bare h (TriggerNext q) _ _ _ _ _ (append_none (modules h)) (append_none (artifacts h)) (append_none (sets h))
    (append_none (rollouts h)) (append_none (action_places h))
    ∙ rollout_step h (TriggerNext q) _ refl (on_rollout h (TriggerNext q) q x triggered w e (trigger_rollout x q (w.last q) h (w.follows q x e) pos)
    (λ r ne. record {
      outcomes = λ j. calm_outcome h (TriggerNext q) r j refl;
      pauses = refl;
      resumes = refl;
      triggers = ne_eqb q r (λ s. ne (sym s));
      starts =
          refl;
    }) (λ r ne. refl))

pub pause_step : (h : CommandList) (q : ℕ) (x : Rollout) → (w : IsAccepted h (Pause q)) → rollout_at h q ≡ Some x → records (h ▸ Pause q)
    ≡ step_records (records h) (Pause q)
unfolding records
pause_step h q x w e = bare h (Pause q) _ _ _ _ _ (append_none (modules h)) (append_none (artifacts h)) (append_none (sets h)) (append_none (rollouts h))
    (append_none (action_places h))
    ∙ rollout_step h (Pause q) _ refl
    (on_rollout h (Pause q) q x (λ (y : RolloutRecord). record y { paused = true }) w e (pause_rollout x q (w.last q) h (w.follows q x e))
    (λ r ne. record {
      outcomes = λ j. calm_outcome h (Pause q) r j refl;
      pauses = ne_eqb q r (λ s. ne (sym s));
      resumes = refl;
      triggers = refl;
      starts =
          refl;
    }) (λ r ne. refl))

pub calm_everywhere : (h : CommandList) (c : Command) → IsAccepted h c → ((r : ℕ) → IsCalm r h c) → ((r : ℕ) → decision_on r c ≡ None)
    → rollouts_in (h ▸ c) 1 (rollouts h) ≡ rollouts_in h 1 (rollouts h)
calm_everywhere h c w calm quiet' = kept h (h ▸ c) 1 (rollouts h) (from_numbers (λ r y. rollout_in (h ▸ c) r y ≡ rollout_in h r y) (rollouts h) (λ r y d.
    calm_rollout y r (w.last r) h c (approval_of r h) (w.follows r y d) (w.started r y d) (calm r) (same_approval r h c (quiet' r))))

pub module_step : (h : CommandList) (label : ModuleLabel) → IsAccepted h (AddModule label) → records (h ▸ AddModule label)
    ≡ step_records (records h) (AddModule label)
unfolding records
module_step h label w = same_records (needs_approval h) _ _ _ _ _ _ _ _ _ _ _ _ refl (append_none (artifacts h)) (append_none (sets h)) refl
    (ap (rollouts_in (h ▸ AddModule label) 1) (append_none (rollouts h))
    ∙ calm_everywhere h (AddModule label) w
    (λ r. record { outcomes = λ j. calm_outcome h (AddModule label) r j refl; pauses = refl; resumes = refl; triggers = refl; starts = refl }) (λ r. refl))
    (ap (map (action_in (h ▸ AddModule label))) (append_none (action_places h)) ∙ calm_actions h (AddModule label) refl (action_places h))

-- ---- a start numbers the new actions

places_made : (f g : ActionPlace → ActionRecord) (r : ℕ) → ((j : ℕ) → f (record { rollout = r; position = j }) ≡ g (record { rollout = r; position = j }))
    → (a n : ℕ) → map f (places_from r a n) ≡ map g (places_from r a n)
places_made f g r e a zero = refl
places_made f g r e a (suc n) = rw (e a, places_made f g r e (suc a) n) refl

-- nothing was said of the rollout's actions
pub record IsFresh (r : ℕ) (h : CommandList) : Type 0 where
  pub outcome : (j : ℕ) → outcome h r j ≡ None
  pub stands : (j : ℕ) → cancel_stands h r j ≡ false
  pub history : (j : ℕ) → history h r j ≡ []

fresh_action : (h : CommandList) (r j : ℕ) → IsFresh r h → action_in h (record { rollout = r; position = j })
    ≡ new_action (record { rollout = r; position = j })
fresh_action h r j f = same_action (record { rollout = r; position = j }) _ _ _ _ _ _ (rw (f.outcome j, f.stands j) refl) (f.outcome j) (f.history j)

start_actions : (h : CommandList) (q : ℕ) (x : Rollout) → IsFresh q h → rollout_at h q ≡ Some x
    → map (action_in (h ▸ Start q)) (action_places h ++ new_places h (Start q))
    ≡ map (action_in h) (action_places h) ++ new_actions (item_numbered (rollouts_in h 1 (rollouts h)) q)
start_actions h q x f e =
    map_append (action_in (h ▸ Start q)) (action_places h) (new_places h (Start q))
    ∙ ap (λ as'. as' ++ map (action_in (h ▸ Start q)) (new_places h (Start q))) (calm_actions h (Start q) refl (action_places h))
    ∙ ap (λ as'. map (action_in h) (action_places h) ++ as') (calm_actions h (Start q) refl (new_places h (Start q))
    ∙ ap (λ o. map (action_in h) (places_of q o)) e
    ∙ places_made (action_in h) new_action q (λ j. fresh_action h q j f) 1 (size_of x)
    ∙ sym (ap new_actions (rollout_numbered h q x e)))

pub start_step : (h : CommandList) (q : ℕ) (x : Rollout) → (w : IsAccepted h (Start q)) → rollout_at h q ≡ Some x → IsFresh q h → IsFollowed x q h 0
    → records (h ▸ Start q) ≡ step_records (records h) (Start q)
unfolding records
start_step h q x w e fresh f =
    ap (λ xs. records_from (needs_approval h) (modules h ++ []) (artifacts h ++ []) (sets h ++ []) (targets h) (rollouts_in (h ▸ Start q) 1 xs)
    (map (action_in (h ▸ Start q)) (action_places h ++ new_places h (Start q)))) (append_none (rollouts h))
    ∙ same_records (needs_approval h) _ _ _ _ _ _ _ _ _ _ _ _ (append_none (modules h)) (append_none (artifacts h)) (append_none (sets h)) refl
    (on_rollout h (Start q) q x begin_rollout w e (start_rollout x q h f)
    (λ r ne. record {
      outcomes = λ j. calm_outcome h (Start q) r j refl;
      pauses = refl;
      resumes = refl;
      triggers = refl;
      starts =
          ne_eqb q r (λ s. ne (sym s));
    }) (λ r ne. refl))
    (start_actions h q x fresh e)
