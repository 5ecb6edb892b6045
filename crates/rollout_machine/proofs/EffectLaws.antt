-- The effects that the view alone gives are those of the history.
use Rattle.rollout_machine.proofs.Common.{◌≡◌, ℕ, zero, suc, ◌+◌, ◌<◌, ◌≤◌, Bool, true, false, cond, ◌||◌, ◌&&◌, not, refl, sym, ◌∙◌, ap, arith, inl, inr, Some}
use Rattle.rollout_machine.proofs.Common.{None, nat_lt, nat_eq, and-true, or-false, or-true, cases_eq, cases_lt, ne_eqb, eq-eqb, false≢true, lt-ltb, action_of}
use Rattle.rollout_machine.proofs.Common.{is_on_action, is_action_place, outcome, CommandList, Make, ◌▸◌, Command, Resume, TriggerNext, Outcome, Good, Bad}
use Rattle.rollout_machine.proofs.Common.{tally, reaches, success_holds, is_outcome, IsLast, HasSoundPlan, StartedOnly, GetsOutcome, IsView, feedback_pauses}
use Rattle.rollout_machine.proofs.Common.{good_after, next_if, starts_next, last_with, FollowsResume, FollowsTrigger, is_group_started}
use Rattle.rollout_machine.proofs.Common.{next_started, is_paused, error_begins_at, is_trigger_of, some_up_to, Rollout, size_in, rule_at, Effects}
use Rattle.rollout_machine.specs.declared.view.RolloutView.{RolloutView}
use Rattle.rollout_machine.proofs.Starts.{starts_one_more, last_after}
use Rattle.rollout_machine.proofs.Tallies.{untouched, no_success, tally_same, tally_gains, tally_elsewhere, quiet, paused_after_outcome, no_error_begins}

-- The effects are those of any command that gives the outcome o to an open action of the view's own group.
abbrev FollowsFeedback : RolloutView → Outcome → Effects → Type 0
FollowsFeedback v o effects =
    (x : Rollout) (r g j l : ℕ) (h : CommandList) (c : Command) → IsView v x r g l h → StartedOnly x r h c → GetsOutcome x r g j h c o
    → (is_paused x r (h ▸ c) ≡ (effects.pauses || is_paused x r h)) × IsLast x r (h ▸ c) (last_with effects.starts l)

-- what `next_if` starts, beside the last group
next_is : (b : Bool) (n l : ℕ) → n ≡ l → last_with (next_if b n) l ≡ cond b (suc l) l
next_is b n l e = grind arith

pub opens_by_count : (x : Rollout) (r : ℕ) (h : CommandList) (c : Command) (l : ℕ) → 1 ≤ l → is_trigger_of r c ≡ false → starts_one_more x r h c l
    ≡ (nat_lt l x.plan.groups.count && (not (is_paused x r (h ▸ c)) && success_holds x r l (h ▸ c)))
opens_by_count x r h c zero a e = absurd (omega arith)
opens_by_count x r h c (suc k) a e = ap (λ b. nat_lt (suc k) x.plan.groups.count && ((not (is_paused x r (h ▸ c)) && success_holds x r (suc k) (h ▸ c)) || b)) e
    ∙ ap (λ b. nat_lt (suc k) x.plan.groups.count && b) (or-false _)

pub opens_by_trigger : (x : Rollout) (r : ℕ) (h : CommandList) (c : Command) (l : ℕ) → 1 ≤ l → is_trigger_of r c ≡ true → starts_one_more x r h c l
    ≡ nat_lt l x.plan.groups.count
opens_by_trigger x r h c zero a e = absurd (omega arith)
opens_by_trigger x r h c (suc k) a e = ap (λ b. nat_lt (suc k) x.plan.groups.count && ((not (is_paused x r (h ▸ c)) && success_holds x r (suc k) (h ▸ c)) || b))
    e ∙ ap (λ b. nat_lt (suc k) x.plan.groups.count && b) (or-true _) ∙ and-true _

-- the last started group has no lower number than a group with an action that the command is on
pub no_further : (x : Rollout) (r g l : ℕ) (h : CommandList) → IsLast x r h l → is_group_started x r g h ≡ true → g ≤ l
no_further x r g l h w e = elim (cases_lt l g) [ inl more ↦ absurd (false≢true (sym (w.beyond g more) ∙ e)) | inr le ↦ le ]

-- from a view, one more command moves the last started group by what `opens` says
moves : (v : RolloutView) (x : Rollout) (r g l : ℕ) (h : CommandList) (c : Command) → IsView v x r g l h → StartedOnly x r h c → (b : Bool)
    → starts_one_more x r h c l ≡ b → IsLast x r (h ▸ c) (last_with (next_if b v.last.number) l)
moves v x r g l h c w s b e =
    rw (next_is b v.last.number l w.last.number, ← e)
    (last_after x r h c l w.sound.some_groups w.is_last
    (no_success x r h c w.sound s w.outcomes (suc l) (omega arith) (w.is_last.beyond (suc l) (omega arith))))

-- the last group's success after the command, by the view
good_now : (v : RolloutView) (x : Rollout) (r g j l : ℕ) (h : CommandList) (c : Command) (o : Outcome) → IsView v x r g l h → GetsOutcome x r g j h c o → 1 ≤ l
    → reaches (good_after v o) v.last.size v.last.success ≡ success_holds x r l (h ▸ c)
good_now v x r g j l h c o w a pos = same_test _ _ _ _ _ _ count (w.last.size) (w.last.success)
  where
    same_test : (a b m n s t : ℕ) → a ≡ b → m ≡ n → s ≡ t → reaches a m s ≡ reaches b n t
    same_test a b m n s t e f d = rw (e, f, d) refl

    count : good_after v o ≡ tally Good x r l (h ▸ c)
    count = elim (cases_eq g l) [
      | inl same ↦ (let t : nat_eq v.own.number v.last.number ≡ true = eq-eqb _ _ (w.own.number ∙ same ∙ sym w.last.number) in
          let gain : tally Good x r l (h ▸ c) ≡ tally Good x r l h + cond (is_outcome Good (Some o)) 1 0 = rw same at (tally_gains Good x r g j h c o a) in
          rw (t, w.last.ok) (sym gain))
      | inr other ↦ (let f : nat_eq v.own.number v.last.number ≡ false = ne_eqb _ _ (λ e. other (sym w.own.number ∙ e ∙ w.last.number)) in
          let kept : tally Good x r l (h ▸ c) ≡ tally Good x r l h = tally_elsewhere Good x r g j h c o w.sound a l pos (λ e. other (sym e)) in
          rw (f, w.last.ok, kept) (omega arith))
    ]

begins_now : (v : RolloutView) (x : Rollout) (r g j l : ℕ) (h : CommandList) (c : Command) (o : Outcome) → IsView v x r g l h → GetsOutcome x r g j h c o
    → feedback_pauses v o ≡ error_begins_at x r h c g
begins_now v x r g j l h c o w a =
    let gain : tally Bad x r g (h ▸ c) ≡ tally Bad x r g h + cond (is_outcome Bad (Some o)) 1 0 = tally_gains Bad x r g j h c o a in
    rw (w.own.bad, w.own.size, w.own.error, gain) refl

or_swap : (a b : Bool) → (a || b) ≡ (b || a)
or_swap a b = grind arith

tests : (m n k i : ℕ) (a b d f : Bool) → m ≡ n → k ≡ i → a ≡ b → d ≡ f → (nat_lt m k && (not a && d)) ≡ (nat_lt n i && (not b && f))
tests m n k i a b d f p q s t = rw (p, q, s, t) refl

on_it : (x : Rollout) (r g j : ℕ) (h : CommandList) (c : Command) (o : Outcome) → GetsOutcome x r g j h c o → is_on_action h c r j ≡ true
on_it x r g j h c o a = rw (a.on, eq-eqb r r refl, eq-eqb j j refl) refl

pub feedback_follows : (v : RolloutView) (o : Outcome) (e : Effects) → e.pauses ≡ feedback_pauses v o → e.starts
    ≡ starts_next v (v.paused || e.pauses) (good_after v o) → FollowsFeedback v o e
feedback_follows v o e p s x r g j l h c w started a =
    let paused : is_paused x r (h ▸ c) ≡ (e.pauses || is_paused x r h) = paused_after_outcome x r g j h c o w.sound a
    ∙ ap (λ b. b || is_paused x r h) (sym (p ∙ begins_now v x r g j l h c o w a)) in
    let reached : g ≤ l = no_further x r g l h w.is_last (started.started g j a.first a.within (on_it x r g j h c o a)) in
    let pos : 1 ≤ l = omega (arith, a.first) in
    let still : (v.paused || e.pauses) ≡ is_paused x r (h ▸ c) = ap (λ b. b || e.pauses) w.paused ∙ or_swap (is_paused x r h) e.pauses ∙ sym paused in
    let opened : starts_one_more x r h c l
    ≡ (nat_lt v.last.number v.groups && (not (v.paused || e.pauses) && reaches (good_after v o) v.last.size v.last.success)) =
    opens_by_count x r h c l pos (quiet h c _ r a.on).2 ∙ sym (tests _ _ _ _ _ _ _ _ w.last.number w.groups still (good_now v x r g j l h c o w a pos)) in
    (paused, rw s (moves v x r g l h c w started _ opened))

-- ---- commands on no action

pub calm_on : (x : Rollout) (r : ℕ) (h : CommandList) (c : Command) → action_of h c ≡ None → StartedOnly x r h c
calm_on x r h c e = record { started = λ i j a w t. absurd (false≢true (sym (ap (λ p. is_action_place p r j) e) ∙ t)) }

pub calm_outcome : (h : CommandList) (c : Command) (r j : ℕ) → action_of h c ≡ None → outcome (h ▸ c) r j ≡ outcome h r j
calm_outcome h c r j e = untouched h c r j (ap (λ p. is_action_place p r j) e)

pub calm_errors : (x : Rollout) (r : ℕ) (h : CommandList) (c : Command) → action_of h c ≡ None → some_up_to (error_begins_at x r h c) x.plan.groups.count
    ≡ false
calm_errors x r h c e = no_error_begins x r h c (λ j. calm_outcome h c r j e)

pub calm_success : (x : Rollout) (r l : ℕ) (h : CommandList) (c : Command) → action_of h c ≡ None → success_holds x r l (h ▸ c) ≡ success_holds x r l h
calm_success x r l h c e = ap (λ n. reaches n (size_in x l) (rule_at x.plan l).success) (tally_same Good x r l h c (λ j w. calm_outcome h c r j e))

view_success : (v : RolloutView) (x : Rollout) (r g l : ℕ) (h : CommandList) → IsView v x r g l h → reaches v.last.ok v.last.size v.last.success
    ≡ success_holds x r l h
view_success v x r g l h w = rw (w.last.ok, w.last.size, w.last.success) refl

resumed : (x : Rollout) (r : ℕ) (h : CommandList) → is_paused x r (h ▸ Resume r) ≡ false
resumed x r h = rw (calm_errors x r h (Resume r) refl, eq-eqb r r refl) refl

pub resume_follows : (v : RolloutView) (e : Effects) → e.pauses ≡ false → e.starts ≡ starts_next v false v.last.ok → FollowsResume v e
resume_follows v e p s x r g l h pos w =
    let opened : starts_one_more x r h (Resume r) l ≡ (nat_lt v.last.number v.groups && (not false && reaches v.last.ok v.last.size v.last.success)) =
    opens_by_count x r h (Resume r) l pos refl
    ∙ sym (tests v.last.number l v.groups x.plan.groups.count false (is_paused x r (h ▸ Resume r)) _ (success_holds x r l (h ▸ Resume r)) w.last.number
    w.groups (sym (resumed x r h)) (view_success v x r g l h w ∙ sym (calm_success x r l h (Resume r) refl))) in
    (resumed x r h ∙ sym p, rw s (moves v x r g l h (Resume r) w (calm_on x r h (Resume r) refl) _ opened))

pub trigger_follows : (v : RolloutView) (e : Effects) → e.pauses ≡ false → e.starts ≡ next_if (nat_lt v.last.number v.groups) v.last.number → FollowsTrigger v e
trigger_follows v e p s x r g l h pos w =
    let opened : starts_one_more x r h (TriggerNext r) l ≡ nat_lt v.last.number v.groups = opens_by_trigger x r h (TriggerNext r) l pos (eq-eqb r r refl)
    ∙ sym (below _ _ _ _ w.last.number w.groups) in
    (rw (calm_errors x r h (TriggerNext r) refl, p) refl, rw s (moves v x r g l h (TriggerNext r) w (calm_on x r h (TriggerNext r) refl) _ opened))
  where
    below : (m n k i : ℕ) → m ≡ n → k ≡ i → nat_lt m k ≡ nat_lt n i
    below m n k i p q = rw (p, q) refl

-- ---- what the machine owes already is done: where the rollout isn't paused, the last started group has no success, unless it is the last of all
pub settled : (x : Rollout) (r l : ℕ) (h : CommandList) → 1 ≤ l → HasSoundPlan x → IsLast x r h l → l < x.plan.groups.count
    → (not (is_paused x r h) && success_holds x r l h) ≡ false
settled x r zero h a s w u = absurd (omega arith)
settled x r (suc k) (Make approval) a s w u = absurd (false≢true (w.up_to 1 (omega arith) (omega arith)))
settled x r (suc k) (h ▸ c) a s w u = owed (nat_lt (suc k) x.plan.groups.count) (next_started x r (suc k) (is_group_started x r (suc k)) h)
    (is_group_started x r (suc k) (h ▸ c)) (not (is_paused x r (h ▸ c)) && success_holds x r (suc k) (h ▸ c)) _
    (lt-ltb _ _ u) (w.up_to (suc k) (omega arith) (omega arith)) (w.beyond (suc (suc k)) (omega arith))
  where
    owed : (lt nx e calm t : Bool) → lt ≡ true → e ≡ true → (lt && (nx || (e && (calm || t)))) ≡ false → calm ≡ false
    owed false nx e calm t p q z = cc
    owed true true e calm t p q z = cc
    owed true false false calm t p q z = cc
    owed true false true true t p q z = cc
    owed true false true false t p q z = refl
