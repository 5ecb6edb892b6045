-- What the verdict on a command gives: it is only on actions of started groups.
use native.Mathlib.Omega.{arith}
use Rattle.rollout_machine.proofs.Common.{◌≡◌, ℕ, ◌≤◌, Bool, true, false, ◌||◌, ◌&&◌, not, List, [], ◌∷◌, refl, sym, ◌∙◌, ap, subst, Option, Some, None}
use Rattle.rollout_machine.proofs.Common.{nat_eq, option_map, eqb-true, and_parts, or_parts, not-false, ActionPlace, action_of, is_action_place}
use Rattle.rollout_machine.proofs.Common.{action_places, action_place, item_numbered, CommandList, DeviceFeedback, DeploymentWord, CancelWord, Command, Cancel}
use Rattle.rollout_machine.proofs.Common.{Feedback, CancelFeedback, IsInGroup, HasSoundPlan, StartedOnly, is_group_started, action_in, Refusal, Rollout}
use Rattle.rollout_machine.proofs.Common.{rollout_at, size_of, has_started, is_started_in, group_is_started, is_for, first_refusal, verdict_row, verdict}
use Rattle.rollout_machine.proofs.Common.{is_device_action, is_some_and}
use Rattle.rollout_machine.specs.Records.{records}
use Rattle.rollout_machine.proofs.Cuts.{IsOwnGroup, group_of, in_its_group, one_group}
use Rattle.rollout_machine.proofs.Ties.{find_holding}
use Rattle.rollout_machine.proofs.Actions.{numbered_map}
use Rattle.rollout_machine.proofs.Whole.{rollout_numbered}

-- where a row refuses nothing, none of its tests holds
abbrev pub NoneHolds : List (Bool × Refusal) → Type 0
NoneHolds [] = Unit {0}
NoneHolds ((t, f) ∷ row) = (t ≡ false) × (NoneHolds row)

pub none_holds : (row : List (Bool × Refusal)) → first_refusal row ≡ None → NoneHolds row
none_holds [] e = tt
none_holds ((true, f) ∷ row) e = cc
none_holds ((false, f) ∷ row) e = (refl, none_holds row e)

-- an action's place is that of a member of a rollout that is there
pub record IsPlace (h : CommandList) (p : ActionPlace) : Type 0 where
  pub rollout : Rollout
  pub there : rollout_at h p.rollout ≡ Some rollout
  pub sound : HasSoundPlan rollout
  pub low : 1 ≤ p.position
  pub high : p.position ≤ size_of rollout

pub its_group : (h : CommandList) (p : ActionPlace) (w : IsPlace h p) → IsOwnGroup w.rollout (group_of w.rollout p.position) p.position
its_group h p w = in_its_group w.rollout p.position w.sound w.low w.high

-- the record's word on an action's group is the history's, whenever the action's record is taken
pub has_started_is : (h h' : CommandList) (p : ActionPlace) (x : Rollout) (g : ℕ) → rollout_at h p.rollout ≡ Some x → HasSoundPlan x → IsOwnGroup x g p.position
    → has_started (records h) (action_in h' p) ≡ is_group_started x p.rollout g h
unfolding records
has_started_is h h' p x g there sound in_it = ap (λ o. is_started_in o (action_in h' p)) (rollout_numbered h p.rollout x there)
    ∙ ap group_is_started (find_holding x p.rollout h g p.position sound in_it)

-- so the command is on actions of started groups alone
only_started : (h : CommandList) (c : Command) (p : ActionPlace) (w : IsPlace h p) → action_of h c ≡ Some p → has_started (records h) (action_in h p) ≡ true
    → (r : ℕ) (x : Rollout) → rollout_at h r ≡ Some x → StartedOnly x r h c
only_started h c p w t e r x d = record { started = λ i j a v on. go i j a v (sym (ap (λ o. is_action_place o r j) t) ∙ on) }
  where
    go : (i j : ℕ) → 1 ≤ i → IsInGroup x i j → (nat_eq p.rollout r && nat_eq p.position j) ≡ true → is_group_started x r i h ≡ true
    go i j a v both =
        let parts : (nat_eq p.rollout r ≡ true) × (nat_eq p.position j ≡ true) = and_parts _ _ both in
        let er : p.rollout ≡ r = eqb-true _ _ parts.0 in
        let ej : p.position ≡ j = eqb-true _ _ parts.1 in
        let options : Some w.rollout ≡ Some x = sym w.there ∙ ap (rollout_at h) er ∙ d in
        let same : w.rollout ≡ x = cc in
        let P : ℕ → Rollout → Type 0 = λ s y. (1 ≤ i) → IsInGroup y i p.position → is_group_started y s i h ≡ true in
        let here : P p.rollout w.rollout = λ b u. at_group i b u in
        let moved : P r x = subst (λ (s : ℕ). P s x) er (subst (λ (y : Rollout). P p.rollout y) same here) in
        moved a (subst (λ (k : ℕ). IsInGroup x i k) (sym ej) v)
      where
        at_group : (i : ℕ) → 1 ≤ i → IsInGroup w.rollout i p.position → is_group_started w.rollout p.rollout i h ≡ true
        at_group i b u =
            let same : i ≡ group_of w.rollout p.position = one_group w.rollout _ i p.position w.sound (its_group h p w).first b (its_group h p w).within u in
            subst (λ (k : ℕ). is_group_started w.rollout p.rollout k h ≡ true) (sym same)
            (sym (has_started_is h h p w.rollout _ w.there w.sound (its_group h p w)) ∙ e)

-- ---- the rows

pub found_action : (h : CommandList) (k : ℕ) (o : Option ActionPlace) → action_place h k ≡ o → item_numbered (records h).actions k ≡ option_map (action_in h) o
unfolding records
found_action h k o e = numbered_map (action_in h) (action_places h) k ∙ ap (option_map (action_in h)) e

device_action : (h : CommandList) (t : List ℕ) (o : Option ActionPlace) → is_device_action (records h) t (option_map (action_in h) o) ≡ true → (p : ActionPlace)
    × (o ≡ Some p) × (has_started (records h) (action_in h p) ≡ true)
device_action h t o e = grind (arith, and_parts)

-- accepted feedback is on an action whose group is started
pub feedback_place : (h : CommandList) (feedback : DeviceFeedback DeploymentWord) → verdict h (Feedback feedback) ≡ None → (p : ActionPlace)
    × (action_place h feedback.action ≡ Some p) × (has_started (records h) (action_in h p) ≡ true)
feedback_place h feedback e =
    let device : is_device_action (records h) feedback.credential.id (item_numbered (records h).actions feedback.action) ≡ true =
    not-false _ (none_holds (verdict_row (records h) (Feedback feedback)) e).1.0 in
    device_action h feedback.credential.id (action_place h feedback.action)
    (sym (ap (is_device_action (records h) feedback.credential.id) (found_action h feedback.action (action_place h feedback.action) refl)) ∙ device)

pub cancel_feedback_place : (h : CommandList) (feedback : DeviceFeedback CancelWord) → verdict h (CancelFeedback feedback) ≡ None → (p : ActionPlace)
    × (action_place h feedback.action ≡ Some p) × (has_started (records h) (action_in h p) ≡ true)
cancel_feedback_place h feedback e =
    let device : is_device_action (records h) feedback.credential.id (item_numbered (records h).actions feedback.action) ≡ true =
    not-false _ (none_holds (verdict_row (records h) (CancelFeedback feedback)) e).1.0 in
    device_action h feedback.credential.id (action_place h feedback.action)
    (sym (ap (is_device_action (records h) feedback.credential.id) (found_action h feedback.action (action_place h feedback.action) refl)) ∙ device)

pub feedback_started : (h : CommandList) (feedback : DeviceFeedback DeploymentWord)
    → ((p : ActionPlace) → action_place h feedback.action ≡ Some p → IsPlace h p) → verdict h (Feedback feedback) ≡ None → (r : ℕ) (x : Rollout)
    → rollout_at h r ≡ Some x → StartedOnly x r h (Feedback feedback)
feedback_started h feedback placed e =
    let (p, at, started) = feedback_place h feedback e in
    only_started h (Feedback feedback) p (placed p at) at started

pub cancel_feedback_started : (h : CommandList) (feedback : DeviceFeedback CancelWord)
    → ((p : ActionPlace) → action_place h feedback.action ≡ Some p → IsPlace h p) → verdict h (CancelFeedback feedback) ≡ None → (r : ℕ) (x : Rollout)
    → rollout_at h r ≡ Some x → StartedOnly x r h (CancelFeedback feedback)
cancel_feedback_started h feedback placed e =
    let (p, at, started) = cancel_feedback_place h feedback e in
    only_started h (CancelFeedback feedback) p (placed p at) at started

cancel_action : (h : CommandList) (t : List ℕ) (force : Bool) (o : Option ActionPlace) → not (is_some_and (is_for (records h) t) (option_map (action_in h) o))
    ≡ false → is_some_and (λ a. not (has_started (records h) a) || (a.canceling && not force)) (option_map (action_in h) o) ≡ false → (p : ActionPlace)
    × (o ≡ Some p) × (has_started (records h) (action_in h p) ≡ true)
cancel_action h t force o a b = grind (arith, not-false)

pub cancel_place : (h : CommandList) (t : List ℕ) (k : ℕ) (force : Bool) → verdict h (Cancel t k force) ≡ None → (p : ActionPlace) × (action_place h k ≡ Some p)
    × (has_started (records h) (action_in h p) ≡ true)
cancel_place h t k force e =
    let row : NoneHolds (verdict_row (records h) (Cancel t k force)) = none_holds (verdict_row (records h) (Cancel t k force)) e in
    let found : item_numbered (records h).actions k ≡ option_map (action_in h) (action_place h k) = found_action h k (action_place h k) refl in
    let there : not (is_some_and (is_for (records h) t) (option_map (action_in h) (action_place h k))) ≡ false =
    sym (ap (λ o. not (is_some_and (is_for (records h) t) o)) found) ∙ (or_parts _ _ row.0).1 in
    let open' : is_some_and (λ a. not (has_started (records h) a) || (a.canceling && not force)) (option_map (action_in h) (action_place h k)) ≡ false =
    sym (ap (is_some_and (λ a. not (has_started (records h) a) || (a.canceling && not force))) found) ∙ row.1.1.0 in
    cancel_action h t force (action_place h k) there open'

-- an accepted cancel too
pub cancel_started : (h : CommandList) (t : List ℕ) (k : ℕ) (force : Bool) → ((p : ActionPlace) → action_place h k ≡ Some p → IsPlace h p)
    → verdict h (Cancel t k force) ≡ None → (r : ℕ) (x : Rollout) → rollout_at h r ≡ Some x → StartedOnly x r h (Cancel t k force)
cancel_started h t k force placed e =
    let (p, at, started) = cancel_place h t k force e in
    only_started h (Cancel t k force) p (placed p at) at started
