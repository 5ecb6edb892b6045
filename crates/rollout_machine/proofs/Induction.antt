-- What holds of every history of accepted commands.
use Rattle.rollout_machine.proofs.Common.{◌≡◌, ℕ, zero, suc, ◌+◌, ◌<◌, ◌≤◌, Bool, true, false, cond, ◌||◌, ◌&&◌, not, List, [], ◌∷◌, ◌++◌, refl, sym, ◌∙◌, ap}
use Rattle.rollout_machine.proofs.Common.{subst, arith, inl, inr, ◌⊎◌, Option, Some, None, length, nat_lt, nat_eq, is_none, slice_get, and-false, or-true}
use Rattle.rollout_machine.proofs.Common.{cases_Bool, ne_eqb, eq-eqb, and_parts, leb-true, eqb-true, false≢true, or_parts, not-false}
use Rattle.rollout_machine.proofs.Common.{ActionPlace, action_of, is_on_action, is_action_place, action_places, action_place, new_places}
use Rattle.rollout_machine.proofs.Common.{places_from, item_numbered, CommandList, Make, ◌▸◌, IsWellFormed, DeviceFeedback, DeploymentWord, CancelWord, Command}
use Rattle.rollout_machine.proofs.Common.{AddModule, AddArtifact, AddSet, PutTargets, Tag, Untag, PutAttributes, CreateRollout, Cancel, Feedback}
use Rattle.rollout_machine.proofs.Common.{CancelFeedback, Resume, TriggerNext, Pause, Start, Approve, Deny, Bytes, RolloutPlan, ModuleLabel, HasSoundPlan}
use Rattle.rollout_machine.proofs.Common.{StartedOnly, is_group_started, next_started, is_rollout_started, is_start_of, is_pause_of, is_resume_of, is_paused}
use Rattle.rollout_machine.proofs.Common.{error_begins_at, some_up_to, step_records, decided, decision_on, rollouts_in, rollout_in, approval_of, Approval}
use Rattle.rollout_machine.proofs.Common.{Rollout, rollouts, rollout_at, created, size_of, members_of, word_from, rollout_word}
use Rattle.rollout_machine.proofs.Common.{is_finished, RolloutWord, IsValid, verdict, verdict_row, is_running, is_at_pause, is_ready, word_is}
use Rattle.rollout_machine.specs.Records.{records}
use Rattle.rollout_machine.proofs.Groupings.{grouping_is_cut, has_thresholds}
use Rattle.rollout_machine.proofs.Starts.{starts_one_more}
use Rattle.rollout_machine.proofs.Tallies.{no_error_begins}
use Rattle.rollout_machine.proofs.Ties.{IsFollowed, follow_on}
use Rattle.rollout_machine.proofs.Whole.{IsAccepted, IsFresh, IsPlaced, rollout_numbered, feedback_step, cancel_feedback_step, cancel_step, resume_step}
use Rattle.rollout_machine.proofs.Whole.{trigger_step, pause_step, start_step, module_step}
use Rattle.rollout_machine.proofs.EffectLaws.{calm_on}
use Rattle.rollout_machine.proofs.Valid.{IsPlace, NoneHolds, none_holds, feedback_place, cancel_feedback_place, feedback_started, cancel_feedback_started}
use Rattle.rollout_machine.proofs.Valid.{cancel_started, cancel_place}

-- ---- lists that grow

pub get_front : {X : Type 0} (xs ys : List X) (i : ℕ) (x : X) → slice_get xs i ≡ Some x → slice_get (xs ++ ys) i ≡ Some x
get_front [] ys i x e = cc
get_front (y ∷ xs) ys zero x e = e
get_front (y ∷ xs) ys (suc i) x e = get_front xs ys i x e

pub stays_numbered : {X : Type 0} (xs ys : List X) (k : ℕ) (x : X) → item_numbered xs k ≡ Some x → item_numbered (xs ++ ys) k ≡ Some x
stays_numbered xs ys k x e = grind (arith, get_front)

get_either : {X : Type 0} (xs ys : List X) (i : ℕ) (x : X) → slice_get (xs ++ ys) i ≡ Some x → (slice_get xs i ≡ Some x)
    ⊎ ((slice_get xs i ≡ None) × ((j : ℕ) × (slice_get ys j ≡ Some x)))
get_either [] ys i x e = inr (refl, (i, e))
get_either (y ∷ xs) ys zero x e = inl e
get_either (y ∷ xs) ys (suc i) x e = get_either xs ys i x e

pub either_numbered : {X : Type 0} (xs ys : List X) (k : ℕ) (x : X) → item_numbered (xs ++ ys) k ≡ Some x → (item_numbered xs k ≡ Some x)
    ⊎ ((item_numbered xs k ≡ None) × ((j : ℕ) × (slice_get ys j ≡ Some x)))
either_numbered xs ys k x e = grind (arith, get_either)

-- ---- the invariant

-- nothing was said of a rollout that isn't there
pub record IsUnmade (r : ℕ) (h : CommandList) : Type 0 where
  pub started : is_rollout_started r h ≡ false
  pub decided : decided r h ≡ None
  pub paused : (x : Rollout) → is_paused x r h ≡ false

pub record Invariant (h : CommandList) : Type 0 where
  pub last : ℕ → ℕ
  pub follows : (r : ℕ) (x : Rollout) → rollout_at h r ≡ Some x → IsFollowed x r h (last r)
  pub placed : (k : ℕ) (p : ActionPlace) → action_place h k ≡ Some p → IsPlace h p
  pub acted : (k : ℕ) (p : ActionPlace) → action_place h k ≡ Some p → is_rollout_started p.rollout h ≡ true
  pub fresh : (r : ℕ) → is_rollout_started r h ≡ false → IsFresh r h
  pub unmade : (r : ℕ) → rollout_at h r ≡ None → IsUnmade r h

-- what the verdict gives of a command, and the ranges of its parts
pub record IsAdmitted (h : CommandList) (c : Command) : Type 0 where
  pub started : (r : ℕ) (x : Rollout) → rollout_at h r ≡ Some x → StartedOnly x r h c
  pub sound : (i : ℕ) (x : Rollout) → slice_get (created h c) i ≡ Some x → HasSoundPlan x
  pub begins : (r : ℕ) → is_start_of r c ≡ true → (x : Rollout) × (rollout_at h r ≡ Some x)
  pub pauses : (r : ℕ) → is_pause_of r c ≡ true → (x : Rollout) × (rollout_at h r ≡ Some x)
  pub decides : (r : ℕ) (b : Bool) → decision_on r c ≡ Some b → (x : Rollout) × (rollout_at h r ≡ Some x)

never_next : (x : Rollout) (r i : ℕ) (earlier : CommandList → Bool) → ((h : CommandList) → is_rollout_started r h ≡ false → earlier h ≡ false)
    → (h : CommandList) → is_rollout_started r h ≡ false → next_started x r i earlier h ≡ false
never_next x r i earlier w (Make approval) e = refl
never_next x r i earlier w (h ▸ c) e =
    let before : next_started x r i earlier h ≡ false = never_next x r i earlier w h (or_parts _ _ e).0 in
    let here : earlier (h ▸ c) ≡ false = w (h ▸ c) e in
    rw (before, here) refl

-- no group of a rollout is started before its start
pub never_started : (x : Rollout) (r i : ℕ) (h : CommandList) → is_rollout_started r h ≡ false → is_group_started x r i h ≡ false
never_started x r zero h e = refl
never_started x r (suc zero) h e = e
never_started x r (suc (suc i)) h e =
    let none : next_started x r (suc i) (is_group_started x r (suc i)) h ≡ false =
    never_next x r (suc i) (is_group_started x r (suc i)) (λ g d. never_started x r (suc i) g d) h e in
    rw none (and-false (nat_lt (suc i) x.plan.groups.count))

before_start : (x : Rollout) (r : ℕ) (h : CommandList) → HasSoundPlan x → is_rollout_started r h ≡ false → IsFresh r h → IsFollowed x r h 0
before_start x r h s e f = record {
  sound = s;
  is_last = record { within = omega arith; up_to = λ i a u. absurd (omega arith); beyond = λ i u. never_started x r i h e };
  outcomes = record { none = λ i j a v d. f.outcome j };
}

-- ---- one more command

abbrev new_last : CommandList → Command → ℕ → ℕ → Option Rollout → ℕ
new_last h c r l None = 0
new_last h c r l (Some x) = cond (starts_one_more x r h c l) (suc l) l

is_there : (h : CommandList) (r : ℕ) → (rollout_at h r ≡ None) ⊎ ((x : Rollout) × (rollout_at h r ≡ Some x))
is_there h r = go (rollout_at h r) refl
  where
    go : (o : Option Rollout) → rollout_at h r ≡ o → (rollout_at h r ≡ None) ⊎ ((x : Rollout) × (rollout_at h r ≡ Some x))
    go None e = inl e
    go (Some x) e = inr (x, e)

not_started : (h : CommandList) (c : Command) (r : ℕ) → IsAdmitted h c → rollout_at h r ≡ None → is_start_of r c ≡ false
not_started h c r a e = elim (cases_Bool (is_start_of r c)) [
  | inr f ↦ f
  | inl t ↦ (let (x, d) = a.begins r t in let both : Some x ≡ None = sym d ∙ e in cc)
]

not_paused : (h : CommandList) (c : Command) (r : ℕ) → IsAdmitted h c → rollout_at h r ≡ None → is_pause_of r c ≡ false
not_paused h c r a e = elim (cases_Bool (is_pause_of r c)) [
  | inr f ↦ f
  | inl t ↦ (let (x, d) = a.pauses r t in let both : Some x ≡ None = sym d ∙ e in cc)
]

not_decided : (h : CommandList) (c : Command) (r : ℕ) → IsAdmitted h c → rollout_at h r ≡ None → decision_on r c ≡ None
not_decided h c r a e = go (decision_on r c) refl
  where
    go : (o : Option Bool) → decision_on r c ≡ o → o ≡ None
    go None d = refl
    go (Some b) d = (let (x, k) = a.decides r b d in let both : Some x ≡ None = sym k ∙ e in cc)

touched_placed : (h : CommandList) (c : Command) (p : ActionPlace) → action_of h c ≡ Some p → (k : ℕ) × (action_place h k ≡ Some p)
touched_placed h c p e = grind arith

off_rollout : (h : CommandList) (c : Command) (r : ℕ) → Invariant h → is_rollout_started r h ≡ false → (j : ℕ) → is_on_action h c r j ≡ false
off_rollout h c r w e j = go (action_of h c) refl
  where
    go : (o : Option ActionPlace) → action_of h c ≡ o → is_action_place o r j ≡ false
    go None t = refl
    go (Some p) t =
        let (k, d) = touched_placed h c p t in
        let other : p.rollout ≡ r → ⊥ = λ s. false≢true (sym e ∙ sym (ap (λ i. is_rollout_started i h) s) ∙ w.acted k p d) in
        ap (λ b. b && nat_eq p.position j) (ne_eqb p.rollout r other)

fresh_after : (h : CommandList) (c : Command) (r : ℕ) → Invariant h → is_rollout_started r h ≡ false → IsFresh r (h ▸ c)
fresh_after h c r w e =
    let f : IsFresh r h = w.fresh r e in
    record {
      outcome = λ j. rw (off_rollout h c r w e j, f.outcome j) refl;
      stands = λ j. rw (off_rollout h c r w e j, f.stands j) refl;
      history = λ j. rw (off_rollout h c r w e j, f.history j) refl;
    }

in_range : (r a n j : ℕ) (p : ActionPlace) → slice_get (places_from r a n) j ≡ Some p → (p.rollout ≡ r) × (a ≤ p.position) × (p.position < a + n)
in_range r a zero j p e = cc
in_range r a (suc n) zero p e = grind arith
in_range r a (suc n) (suc j) p e = grind (arith, in_range r (suc a) n j p e)

pub record IsNewPlace (h : CommandList) (c : Command) (p : ActionPlace) : Type 0 where
  pub rollout : Rollout
  pub starts : is_start_of p.rollout c ≡ true
  pub there : rollout_at h p.rollout ≡ Some rollout
  pub low : 1 ≤ p.position
  pub high : p.position ≤ size_of rollout

new_place : (h : CommandList) (c : Command) (j : ℕ) (p : ActionPlace) → slice_get (new_places h c) j ≡ Some p → IsNewPlace h c p
new_place h c j p e = grind (arith, in_range, eq-eqb)

moved_place : (h : CommandList) (c : Command) (p : ActionPlace) → IsPlace h p → IsPlace (h ▸ c) p
moved_place h c p w = grind (arith, stays_numbered)

pub goes_on : (h : CommandList) (c : Command) → Invariant h → IsAdmitted h c → Invariant (h ▸ c)
goes_on h c w a = record {
  last = λ r. new_last h c r (w.last r) (rollout_at h r);
  follows = followed;
  placed = λ k p e. elim (either_numbered (action_places h) (new_places h c) k p e) [
    | inl old ↦ moved_place h c p (w.placed k p old)
    | inr new ↦ (let n : IsNewPlace h c p = new_place h c new.1.0 p new.1.1 in
        moved_place h c p (record { rollout = n.rollout; there = n.there; sound = (w.follows p.rollout n.rollout n.there).sound; low = n.low; high = n.high }))
  ];
  acted = λ k p e. elim (either_numbered (action_places h) (new_places h c) k p e) [
    | inl old ↦ rw (w.acted k p old) refl
    | inr new ↦ (let n : IsNewPlace h c p = new_place h c new.1.0 p new.1.1 in rw n.starts (or-true (is_rollout_started p.rollout h)))
  ];
  fresh = λ r e. fresh_after h c r w (or_parts _ _ e).0;
  unmade = λ r e. elim (is_there h r) [
    | inl none ↦ still_unmade r none
    | inr some ↦ (let both : Some some.0 ≡ None = sym (stays_numbered (rollouts h) (created h c) r some.0 some.1) ∙ e in cc)
  ];
}
  where
    calm_test : (p s q b : Bool) → p ≡ false → s ≡ false → b ≡ false → ((p || s) || (not q && b)) ≡ false
    calm_test p s true b e f g = rw (e, f) refl
    calm_test p s false b e f g = rw (e, f, g) refl

    still_unmade : (r : ℕ) → rollout_at h r ≡ None → IsUnmade r (h ▸ c)
    still_unmade r none =
        let u : IsUnmade r h = w.unmade r none in
        record {
          started = rw (u.started, not_started h c r a none) refl;
          decided = rw (u.decided, not_decided h c r a none) refl;
          paused = λ x. calm_test (is_pause_of r c) (some_up_to (error_begins_at x r h c) x.plan.groups.count) (is_resume_of r c) (is_paused x r h)
              (not_paused h c r a none) (no_error_begins x r h c (λ j. (fresh_after h c r w u.started).outcome j ∙ sym ((w.fresh r u.started).outcome j)))
              (u.paused x);
        }

    followed : (r : ℕ) (x : Rollout) → rollout_at (h ▸ c) r ≡ Some x → IsFollowed x r (h ▸ c) (new_last h c r (w.last r) (rollout_at h r))
    followed r x e = elim (either_numbered (rollouts h) (created h c) r x e) [
      | inl old ↦ (let P : Option Rollout → Type 0 = λ o. IsFollowed x r (h ▸ c) (new_last h c r (w.last r) o) in
          subst P (sym old) (follow_on x r (w.last r) h c (w.follows r x old) (a.started r x old)))
      | inr new ↦ (let P : Option Rollout → Type 0 = λ o. IsFollowed x r (h ▸ c) (new_last h c r (w.last r) o) in
          let none : is_rollout_started r h ≡ false = (w.unmade r new.0).started in
          let still : is_rollout_started r (h ▸ c) ≡ false = rw none (not_started h c r a new.0) in
          subst P (sym new.0) (before_start x r (h ▸ c) (a.sound new.1.0 x new.1.1) still (fresh_after h c r w none)))
    ]

pub begins_so : (approval : Bool) → Invariant (Make approval)
begins_so approval = record {
  last = λ r. 0;
  follows = λ r x e. absurd (nothing r x e);
  placed = λ k p e. absurd (nowhere k p e);
  acted = λ k p e. absurd (nowhere k p e);
  fresh = λ r e. record { outcome = λ j. refl; stands = λ j. refl; history = λ j. refl };
  unmade = λ r e. record { started = refl; decided = refl; paused = λ x. refl };
}
  where
    nothing : (r : ℕ) (x : Rollout) → rollout_at (Make approval) r ≡ Some x → ⊥
    nothing zero x e = cc
    nothing (suc r) x e = cc

    nowhere : (k : ℕ) (p : ActionPlace) → action_place (Make approval) k ≡ Some p → ⊥
    nowhere zero p e = cc
    nowhere (suc k) p e = cc

-- ---- from the verdicts

no_rollout : (h : CommandList) (a i : ℕ) (xs : List Rollout) → slice_get xs i ≡ None → slice_get (rollouts_in h a xs) i ≡ None
no_rollout h a i [] e = refl
no_rollout h a zero (x ∷ xs) e = cc
no_rollout h a (suc i) (x ∷ xs) e = no_rollout h (suc a) i xs e

pub no_record : (h : CommandList) (r : ℕ) → rollout_at h r ≡ None → item_numbered (rollouts_in h 1 (rollouts h)) r ≡ None
no_record h r e = grind (arith, no_rollout)

-- a rollout that the verdict found is there
pub found_rollout : (h : CommandList) (r : ℕ) → is_none (item_numbered (records h).rollouts r) ≡ false → (x : Rollout) × (rollout_at h r ≡ Some x)
unfolding records
found_rollout h r e = grind (arith, is_there, no_record)

started_in : (h : CommandList) (c : Command) → Invariant h → verdict h c ≡ None → (r : ℕ) (x : Rollout) → rollout_at h r ≡ Some x → StartedOnly x r h c
started_in h (Feedback feedback) w e r x d = feedback_started h feedback (λ p t. w.placed feedback.action p t) e r x d
started_in h (CancelFeedback feedback) w e r x d = cancel_feedback_started h feedback (λ p t. w.placed feedback.action p t) e r x d
started_in h (Cancel t k force) w e r x d = cancel_started h t k force (λ p u. w.placed k p u) e r x d
started_in h (AddModule label) w e r x d = calm_on x r h _ refl
started_in h (AddArtifact upload) w e r x d = calm_on x r h (AddArtifact upload) refl
started_in h (AddSet label) w e r x d = calm_on x r h (AddSet label) refl
started_in h (PutTargets rows) w e r x d = calm_on x r h (PutTargets rows) refl
started_in h (Tag t y) w e r x d = calm_on x r h (Tag t y) refl
started_in h (Untag t y) w e r x d = calm_on x r h (Untag t y) refl
started_in h (PutAttributes device attributes) w e r x d = calm_on x r h (PutAttributes device attributes) refl
started_in h (CreateRollout plan) w e r x d = calm_on x r h (CreateRollout plan) refl
started_in h (Approve q) w e r x d = calm_on x r h (Approve q) refl
started_in h (Deny q) w e r x d = calm_on x r h (Deny q) refl
started_in h (Start q) w e r x d = calm_on x r h (Start q) refl
started_in h (Pause q) w e r x d = calm_on x r h (Pause q) refl
started_in h (Resume q) w e r x d = calm_on x r h (Resume q) refl
started_in h (TriggerNext q) w e r x d = calm_on x r h (TriggerNext q) refl

sound_in : (h : CommandList) (c : Command) → IsWellFormed c → verdict h c ≡ None → (i : ℕ) (x : Rollout) → slice_get (created h c) i ≡ Some x → HasSoundPlan x
unfolding records
sound_in h (CreateRollout plan) m e zero x d =
    let row : NoneHolds (verdict_row (records h) (CreateRollout plan)) = none_holds (verdict_row (records h) (CreateRollout plan)) e in
    let grouping = (and_parts _ _ m).0 in
    let made : HasSoundPlan (record { plan = plan; members = members_of plan.filter_text h }) = record {
      some_groups = leb-true _ _ (and_parts _ _ (and_parts _ _ grouping).0).0;
      cut = grouping_is_cut plan.groups (length (members_of plan.filter_text h)) grouping row.1.1.1.0;
      success = λ i. (has_thresholds plan i m).success;
      error = λ i. (has_thresholds plan i m).error;
    } in
    let options : Some (made_rollout plan (members_of plan.filter_text h)) ≡ Some x = d in
    let same : made_rollout plan (members_of plan.filter_text h) ≡ x = cc in
    subst HasSoundPlan same made
  where
    made_rollout : RolloutPlan → List Bytes → Rollout
    made_rollout plan members = record { plan = plan; members = members }
sound_in h (CreateRollout plan) m e (suc i) x d = cc
sound_in h _ m e i x d = cc

begins_in : (h : CommandList) (c : Command) → verdict h c ≡ None → (r : ℕ) → is_start_of r c ≡ true → (x : Rollout) × (rollout_at h r ≡ Some x)
begins_in h c e r t = grind (arith, none_holds, found_rollout, eqb-true)

pauses_in : (h : CommandList) (c : Command) → verdict h c ≡ None → (r : ℕ) → is_pause_of r c ≡ true → (x : Rollout) × (rollout_at h r ≡ Some x)
pauses_in h c e r t = grind (arith, none_holds, found_rollout, eqb-true)

decides_in : (h : CommandList) (c : Command) → verdict h c ≡ None → (r : ℕ) (b : Bool) → decision_on r c ≡ Some b → (x : Rollout) × (rollout_at h r ≡ Some x)
decides_in h (Approve q) e r b t =
    let row : NoneHolds (verdict_row (records h) (Approve q)) = none_holds (verdict_row (records h) (Approve q)) e in
    let (x, d) = found_rollout h q row.0 in
    (x, ap (rollout_at h) (sym (by_test (nat_eq q r) refl t)) ∙ d)
  where
    by_test : (v : Bool) → nat_eq q r ≡ v → cond v (Some true) None ≡ Some b → q ≡ r
    by_test true f g = eqb-true q r f
    by_test false f g = cc
decides_in h (Deny q) e r b t =
    let row : NoneHolds (verdict_row (records h) (Deny q)) = none_holds (verdict_row (records h) (Deny q)) e in
    let (x, d) = found_rollout h q row.0 in
    (x, ap (rollout_at h) (sym (by_test (nat_eq q r) refl t)) ∙ d)
  where
    by_test : (v : Bool) → nat_eq q r ≡ v → cond v (Some false) None ≡ Some b → q ≡ r
    by_test true f g = eqb-true q r f
    by_test false f g = cc
decides_in h _ e r b t = cc

pub admitted : (h : CommandList) (c : Command) → Invariant h → IsWellFormed c → verdict h c ≡ None → IsAdmitted h c
admitted h c w m e = record {
  started = started_in h c w e;
  sound = sound_in h c m e;
  begins = begins_in h c e;
  pauses = pauses_in h c e;
  decides =
      decides_in h c e;
}

-- every history of accepted commands
pub invariant_of : (h : CommandList) → IsValid h → Invariant h
invariant_of (Make approval) v = begins_so approval
invariant_of (h ▸ c) v = let w : Invariant h = invariant_of h v.0 in goes_on h c w (admitted h c w v.1 v.2)

pub accepted : (h : CommandList) (c : Command) → IsValid h → verdict h c ≡ None → IsAccepted h c
accepted h c v e = grind (arith, invariant_of, started_in)

-- ---- feedback, from the records before it

placed_at : (h : CommandList) (c : Command) (k : ℕ) → Invariant h → (p : ActionPlace) → action_place h k ≡ Some p → IsPlaced h c k
placed_at h c k w p e =
    let t : IsPlace h p = w.placed k p e in
    record { place = p; rollout = t.rollout; numbered = e; there = t.there; low = t.low; high = t.high }

pub feedback_is_step : (h : CommandList) (feedback : DeviceFeedback DeploymentWord) → IsValid h → verdict h (Feedback feedback) ≡ None
    → records (h ▸ Feedback feedback) ≡ step_records (records h) (Feedback feedback)
feedback_is_step h feedback v e = grind (arith, feedback_place, feedback_step, accepted, placed_at, invariant_of)

pub cancel_feedback_is_step : (h : CommandList) (feedback : DeviceFeedback CancelWord) → IsValid h → verdict h (CancelFeedback feedback) ≡ None
    → records (h ▸ CancelFeedback feedback) ≡ step_records (records h) (CancelFeedback feedback)
cancel_feedback_is_step h feedback v e = grind (arith, cancel_feedback_place, cancel_feedback_step, accepted, placed_at, invariant_of)

pub cancel_is_step : (h : CommandList) (t : Bytes) (k : ℕ) (force : Bool) → IsValid h → verdict h (Cancel t k force) ≡ None → records (h ▸ Cancel t k force)
    ≡ step_records (records h) (Cancel t k force)
cancel_is_step h t k force v e = grind (arith, cancel_place, cancel_step, accepted, placed_at, invariant_of)

-- ---- commands on a rollout

-- what the words say of a record's flags
running_begun : (a : Approval) (b f p : Bool) → is_running (word_from a b f p) ≡ true → b ≡ true
running_begun a b f p e = grind arith

paused_begun : (a : Approval) (b f p : Bool) → is_at_pause (word_from a b f p) ≡ true → b ≡ true
paused_begun a b f p e = grind arith

pub ready_not_begun : (a : Approval) (b f p : Bool) → is_ready (word_from a b f p) ≡ true → b ≡ false
ready_not_begun a b f p e = grind arith

-- a rollout that has begun has a started group, and one that hasn't has none
some_started : (x : Rollout) (r l : ℕ) (h : CommandList) → IsFollowed x r h l → is_rollout_started r h ≡ true → 1 ≤ l
some_started x r zero h f e = absurd (false≢true (sym (f.is_last.beyond 1 (omega arith)) ∙ e))
some_started x r (suc l) h f e = omega arith

pub word_at : (h : CommandList) (r : ℕ) (test : RolloutWord → Bool) (x : Rollout) → rollout_at h r ≡ Some x
    → not (word_is test (item_numbered (records h).rollouts r)) ≡ false → test (rollout_word (rollout_in h r x)) ≡ true
unfolding records
word_at h r test x d e = sym (ap (word_is test) (rollout_numbered h r x d)) ∙ not-false _ e

pub resume_is_step : (h : CommandList) (q : ℕ) → IsValid h → verdict h (Resume q) ≡ None → records (h ▸ Resume q) ≡ step_records (records h) (Resume q)
resume_is_step h q v e =
    let row : NoneHolds (verdict_row (records h) (Resume q)) = none_holds (verdict_row (records h) (Resume q)) e in
    let (x, d) = found_rollout h q row.0 in
    let w : IsAccepted h (Resume q) = accepted h (Resume q) v e in
    let b : is_rollout_started q h ≡ true = paused_begun (approval_of q h) (is_rollout_started q h) (is_finished (rollout_in h q x)) (is_paused x q h)
    (word_at h q is_at_pause x d row.1.0) in
    resume_step h q x w d (some_started x q (w.last q) h (w.follows q x d) b)

pub trigger_is_step : (h : CommandList) (q : ℕ) → IsValid h → verdict h (TriggerNext q) ≡ None → records (h ▸ TriggerNext q)
    ≡ step_records (records h) (TriggerNext q)
trigger_is_step h q v e =
    let row : NoneHolds (verdict_row (records h) (TriggerNext q)) = none_holds (verdict_row (records h) (TriggerNext q)) e in
    let (x, d) = found_rollout h q row.0 in
    let w : IsAccepted h (TriggerNext q) = accepted h (TriggerNext q) v e in
    let b : is_rollout_started q h ≡ true = running_begun (approval_of q h) (is_rollout_started q h) (is_finished (rollout_in h q x)) (is_paused x q h)
    (word_at h q is_running x d row.1.0) in
    trigger_step h q x w d (some_started x q (w.last q) h (w.follows q x d) b)

pub pause_is_step : (h : CommandList) (q : ℕ) → IsValid h → verdict h (Pause q) ≡ None → records (h ▸ Pause q) ≡ step_records (records h) (Pause q)
pause_is_step h q v e = grind (arith, none_holds, found_rollout, pause_step, accepted)

pub start_is_step : (h : CommandList) (q : ℕ) → IsValid h → verdict h (Start q) ≡ None → records (h ▸ Start q) ≡ step_records (records h) (Start q)
start_is_step h q v e =
    let row : NoneHolds (verdict_row (records h) (Start q)) = none_holds (verdict_row (records h) (Start q)) e in
    let (x, d) = found_rollout h q row.0 in
    let w : IsAccepted h (Start q) = accepted h (Start q) v e in
    let i : Invariant h = invariant_of h v in
    let b : is_rollout_started q h ≡ false = ready_not_begun (approval_of q h) (is_rollout_started q h) (is_finished (rollout_in h q x)) (is_paused x q h)
    (word_at h q is_ready x d row.1.0) in
    start_step h q x w d (i.fresh q b) (before_start x q h (w.follows q x d).sound b (i.fresh q b))

pub module_is_step : (h : CommandList) (label : ModuleLabel) → IsValid h → verdict h (AddModule label) ≡ None → records (h ▸ AddModule label)
    ≡ step_records (records h) (AddModule label)
module_is_step h label v e = module_step h label (accepted h (AddModule label) v e)
