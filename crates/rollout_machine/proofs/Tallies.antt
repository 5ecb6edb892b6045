-- How one command changes the outcomes and the counts of a rollout's groups.
use Rattle.rollout_machine.proofs.Common.{◌≡◌, ℕ, zero, suc, ◌+◌, ◌*◌, ◌≤◌, Bool, true, false, cond, ◌||◌, ◌&&◌, not, refl, sym, ◌∙◌, ap, subst, arith, inl}
use Rattle.rollout_machine.proofs.Common.{inr, Option, Some, None, nat_le, nat_eq, and-false, option_or, cases_eq, cases_Bool, lt-leb, ne_eqb, false≢true}
use Rattle.rollout_machine.proofs.Common.{ActionPlace, action_of, is_heard, is_on_action, is_action_place, outcome, outcome_given, cancel_stands, CommandList}
use Rattle.rollout_machine.proofs.Common.{◌▸◌, Command, Outcome, Good, Bad, tally, reaches, success_holds, is_outcome}
use Rattle.rollout_machine.proofs.Common.{IsInGroup, HasSoundPlan, StartedOnly, OutcomesStarted, GetsOutcome, is_group_started, is_paused, error_begins_at}
use Rattle.rollout_machine.proofs.Common.{is_pause_of, is_resume_of, is_trigger_of, is_start_of, some_up_to, Rollout, rule_at, first_of, size_in}
use Rattle.rollout_machine.proofs.Counts.{count_same, count_none, count_one, none_up_to, one_up_to}
use Rattle.rollout_machine.proofs.Cuts.{one_group, size_positive}
use Rattle.rollout_machine.proofs.Starts.{kept_started}

pub or_none : (o : Option Outcome) → option_or o None ≡ o
or_none o = grind arith

pub untouched : (h : CommandList) (c : Command) (r j : ℕ) → is_on_action h c r j ≡ false → outcome (h ▸ c) r j ≡ outcome h r j
untouched h c r j e = rw e (or_none (outcome h r j))

pub closed_stays : (h : CommandList) (c : Command) (r j : ℕ) (o : Outcome) → outcome h r j ≡ Some o → outcome (h ▸ c) r j ≡ Some o
closed_stays h c r j o e = rw e refl

pub gives : (h : CommandList) (c : Command) (r j : ℕ) → is_heard h c r j ≡ true → outcome h r j ≡ None → outcome (h ▸ c) r j
    ≡ outcome_given c (cancel_stands h r j)
gives h c r j on open' = rw (on, open') refl

-- an open action of a group that isn't started stays so at the next command
pub still_open : (x : Rollout) (r : ℕ) (h : CommandList) (c : Command) → StartedOnly x r h c → OutcomesStarted x r h → (i j : ℕ) → 1 ≤ i → IsInGroup x i j
    → is_group_started x r i h ≡ false → outcome (h ▸ c) r j ≡ None
still_open x r h c s o i j a w e = elim (cases_Bool (is_on_action h c r j)) [
  | inl t ↦ absurd (false≢true (sym e ∙ s.started i j a w t))
  | inr f ↦ untouched h c r j f ∙ o.none i j a w e
]

-- so it has no success at it
pub no_success : (x : Rollout) (r : ℕ) (h : CommandList) (c : Command) → HasSoundPlan x → StartedOnly x r h c → OutcomesStarted x r h → (i : ℕ) → 1 ≤ i
    → is_group_started x r i h ≡ false → i ≤ x.plan.groups.count → success_holds x r i (h ▸ c) ≡ false
no_success x r h c w s o i a e b =
    let none : tally Good x r i (h ▸ c) ≡ 0 =
    count_none _ _ _ (λ j l u. ap (is_outcome Good) (still_open x r h c s o i j a (record { low = l; high = u }) e)) in
    rw none (few (rule_at x.plan i).success (size_in x i) (w.success i) (size_positive x i w a b))
  where
    few : (s n : ℕ) → 1 ≤ s → 1 ≤ n → nat_le (s * n) (100 * 0) ≡ false
    few zero n a b = absurd (omega arith)
    few (suc k) n a b = lt-leb _ _ (omega arith)

pub not_before : (x : Rollout) (r i : ℕ) (h : CommandList) (c : Command) → is_group_started x r i (h ▸ c) ≡ false → is_group_started x r i h ≡ false
not_before x r i h c e = elim (cases_Bool (is_group_started x r i h)) [
  | inl t ↦ absurd (false≢true (sym e ∙ kept_started x r i h c t))
  | inr f ↦ f
]

pub outcomes_after : (x : Rollout) (r : ℕ) (h : CommandList) (c : Command) → StartedOnly x r h c → OutcomesStarted x r h → OutcomesStarted x r (h ▸ c)
outcomes_after x r h c s o = record { none = λ i j a w e. still_open x r h c s o i j a w (not_before x r i h c e) }

-- ---- counts

pub tally_same : (q : Outcome) (x : Rollout) (r i : ℕ) (h : CommandList) (c : Command) → ((j : ℕ) → IsInGroup x i j → outcome (h ▸ c) r j ≡ outcome h r j)
    → tally q x r i (h ▸ c) ≡ tally q x r i h
tally_same q x r i h c e = count_same _ _ _ _ (λ j l u. ap (is_outcome q) (e j (record { low = l; high = u })))

pub others : (x : Rollout) (r g j : ℕ) (h : CommandList) (c : Command) (o : Outcome) → GetsOutcome x r g j h c o → (k : ℕ) → (k ≡ j → ⊥) → outcome (h ▸ c) r k
    ≡ outcome h r k
others x r g j h c o w k ne = untouched h c r k (ap (λ p. is_action_place p r k) w.on ∙ ap (λ b. nat_eq r r && b) (ne_eqb j k (λ e. ne (sym e)))
    ∙ and-false (nat_eq r r))

pub none_is : (q : Outcome) → is_outcome q None ≡ false
none_is q = grind arith

gains_by : (q : Outcome) (x : Rollout) (r g j : ℕ) (h : CommandList) (c : Command) (o : Outcome) → GetsOutcome x r g j h c o → (b : Bool)
    → is_outcome q (Some o) ≡ b → tally q x r g (h ▸ c) ≡ tally q x r g h + cond b 1 0
gains_by q x r g j h c o w true e =
    count_one _ _ _ _ j w.within.low w.within.high (ap (is_outcome q) w.was ∙ none_is q) (ap (is_outcome q) w.now ∙ e)
    (λ k l u ne. ap (is_outcome q) (sym (others x r g j h c o w k ne)))
gains_by q x r g j h c o w false e =
    let same : tally q x r g (h ▸ c) ≡ tally q x r g h = count_same (λ k. is_outcome q (outcome (h ▸ c) r k)) (λ k. is_outcome q (outcome h r k)) (first_of x g)
    (size_in x g) (λ k l u. elim (cases_eq k j) [
      | inl here ↦ changed k here
      | inr other ↦ ap (is_outcome q) (others x r g j h c o w k other)
    ]) in
    omega arith
  where
    changed : (k : ℕ) → k ≡ j → is_outcome q (outcome (h ▸ c) r k) ≡ is_outcome q (outcome h r k)
    changed k here = ap (λ i. is_outcome q (outcome (h ▸ c) r i)) here ∙ ap (is_outcome q) w.now ∙ e ∙ sym (none_is q) ∙ sym (ap (is_outcome q) w.was)
        ∙ sym (ap (λ i. is_outcome q (outcome h r i)) here)

-- the group's count of an outcome after the command that gave it
pub tally_gains : (q : Outcome) (x : Rollout) (r g j : ℕ) (h : CommandList) (c : Command) (o : Outcome) → GetsOutcome x r g j h c o → tally q x r g (h ▸ c)
    ≡ tally q x r g h + cond (is_outcome q (Some o)) 1 0
tally_gains q x r g j h c o w = gains_by q x r g j h c o w (is_outcome q (Some o)) refl

-- and of each other group
pub tally_elsewhere : (q : Outcome) (x : Rollout) (r g j : ℕ) (h : CommandList) (c : Command) (o : Outcome) → HasSoundPlan x → GetsOutcome x r g j h c o
    → (i : ℕ) → 1 ≤ i → (i ≡ g → ⊥) → tally q x r i (h ▸ c) ≡ tally q x r i h
tally_elsewhere q x r g j h c o s w i a ne = tally_same q x r i h c (λ k v. others x r g j h c o w k (λ e. ne (place k v e)))
  where
    place : (k : ℕ) → IsInGroup x i k → k ≡ j → i ≡ g
    place k v e = one_group x g i k s w.first a (subst (IsInGroup x g) (sym e) w.within) v

-- ---- pauses

never_begins : (a b : Bool) → a ≡ b → (a && not b) ≡ false
never_begins a b e = grind arith

pub quiet : (h : CommandList) (c : Command) (p : ActionPlace) (r : ℕ) → action_of h c ≡ Some p → (is_pause_of r c ≡ false) × (is_resume_of r c ≡ false)
    × (is_trigger_of r c ≡ false) × (is_start_of r c ≡ false)
quiet h c p r e = grind arith

-- after a final outcome the rollout is paused if it was, or if the action's own group begins to be in error
pub paused_after_outcome : (x : Rollout) (r g j : ℕ) (h : CommandList) (c : Command) (o : Outcome) → HasSoundPlan x → GetsOutcome x r g j h c o
    → is_paused x r (h ▸ c) ≡ (error_begins_at x r h c g || is_paused x r h)
paused_after_outcome x r g j h c o s w =
    let calm : (is_pause_of r c ≡ false) × (is_resume_of r c ≡ false) × (is_trigger_of r c ≡ false) × (is_start_of r c ≡ false) = quiet h c _ r w.on in
    let errors : some_up_to (error_begins_at x r h c) x.plan.groups.count ≡ error_begins_at x r h c g =
    one_up_to (error_begins_at x r h c) x.plan.groups.count g w.first w.last
    (λ i a u ne. never_begins _ _ (ap (λ n. reaches n (size_in x i) (rule_at x.plan i).error) (tally_elsewhere Bad x r g j h c o s w i a ne))) in
    joined _ _ _ _ _ calm.0 errors calm.1
  where
    joined : (p s e q b : Bool) → p ≡ false → s ≡ e → q ≡ false → ((p || s) || (not q && b)) ≡ (e || b)
    joined false true true false b p s q = refl
    joined false false false false b p s q = refl
    joined false true false false b p s q = cc
    joined false false true false b p s q = cc
    joined true _ _ _ b p s q = cc
    joined false _ _ true b p s q = cc

-- where no outcome changes, no error begins
pub no_error_begins : (x : Rollout) (r : ℕ) (h : CommandList) (c : Command) → ((j : ℕ) → outcome (h ▸ c) r j ≡ outcome h r j)
    → some_up_to (error_begins_at x r h c) x.plan.groups.count ≡ false
no_error_begins x r h c e = none_up_to (error_begins_at x r h c) x.plan.groups.count
    (λ i a u. never_begins _ _ (ap (λ n. reaches n (size_in x i) (rule_at x.plan i).error) (tally_same Bad x r i h c (λ j v. e j))))
