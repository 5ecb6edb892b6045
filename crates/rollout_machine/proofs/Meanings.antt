-- What the computing definitions mean, in words about the commands of a history.
use Rattle.rollout_machine.proofs.Common.{◌≡◌, ◌⊎◌, inl, inr, ℕ, zero, suc, ◌+◌, ◌≤◌, ◌<◌, Bool, true, false, ◌||◌, ◌&&◌, not, cond, List, [], ◌∷◌, ◌++◌, refl}
use Rattle.rollout_machine.proofs.Common.{sym, ◌∙◌, ap, subst, Option, Some, None, arith, slice_get, nat_lt, length, is_none, is_some, ActionPlace}
use Rattle.rollout_machine.proofs.Common.{action_places, places_from, places_of, new_places, action_place, action_of, is_heard, is_on_action, is_action_place}
use Rattle.rollout_machine.proofs.Common.{outcome_given, outcome, cancel_standing_said, cancel_stands, is_canceling}
use Rattle.rollout_machine.proofs.Common.{reports, is_again, same_bytes, item_numbered, CommandList, Make, ◌▸◌, followed_by, Bytes, TargetRow, Command}
use Rattle.rollout_machine.proofs.Common.{PutTargets, Start, Pause, TriggerNext, Cancel, Feedback, CancelFeedback}
use Rattle.rollout_machine.proofs.Common.{Outcome, Gone}
use Rattle.rollout_machine.proofs.Common.{success_holds, error_holds, NoneGave, CancelingIsLast, NotNamed, LastRow, SpeaksOfCancel, EndsInCommand, NoneSpeaks}
use Rattle.rollout_machine.proofs.Common.{StartedIs, NeverNamed, Says, PauseBegins, OutcomeIsFirst, NumbersActions, FirstOutcome, size_at, NextIsStarted}
use Rattle.rollout_machine.proofs.Common.{LastIsCancel, started_sizes, started_by, Offer, offer, first_offer, is_paused, is_trigger_of, is_pause_of}
use Rattle.rollout_machine.proofs.Common.{next_started, is_group_started, pause_begins, error_begins_at, some_up_to, Records, ActionRecord, Rollout}
use Rattle.rollout_machine.proofs.Common.{rollout_at, size_of, is_for, has_started, import_rows_of, last_row_for, last_row_of, and_parts, not-true, eqb-true}
use Rattle.rollout_machine.proofs.Common.{eq-eqb, lt-ltb, false≢true, cases_lt, option_or}

pub one_more : (h : CommandList) (cs : List Command) (c : Command) → followed_by h (cs ++ c ∷ []) ≡ followed_by h cs ▸ c
one_more h [] c = refl
one_more h (d ∷ cs) c = one_more (h ▸ d) cs c

abbrev pub longer : (h : CommandList) (c : Command) → EndsInCommand h → EndsInCommand (h ▸ c)
longer h c e = record {
  before = e.before;
  command = e.command;
  rest = e.rest ++ c ∷ [];
  whole = one_more (e.before ▸ e.command) e.rest c
      ∙ ap (λ g. g ▸ c) e.whole;
}

is_pause : (r : ℕ) (c : Command) → is_pause_of r c ≡ true → c ≡ Pause r
is_pause r c e = grind (arith, eqb-true)

or_split : (a b : Bool) → (a || b) ≡ true → (a ≡ true) ⊎ (b ≡ true)
or_split a b d = grind arith

some_of : (p : ℕ → Bool) (n : ℕ) → some_up_to p n ≡ true → (i : ℕ) × (1 ≤ i) × (i ≤ n) × (p i ≡ true)
some_of p zero e = cc
some_of p (suc n) e = go (or_split _ _ e) (some_of p n)
  where
    go : (some_up_to p n ≡ true) ⊎ (p (suc n) ≡ true) → (some_up_to p n ≡ true → (i : ℕ) × (1 ≤ i) × (i ≤ n) × (p i ≡ true)) → (i : ℕ) × (1 ≤ i) × (i ≤ suc n)
        × (p i ≡ true)
    go (inl d) ih = let w = ih d in (w.0, w.1, omega (arith, w.2), w.3)
    go (inr d) ih = (suc n, omega arith, omega arith, d)

pub pause_begins_to : (x : Rollout) (r : ℕ) (before : CommandList) (c : Command) → pause_begins x r before c ≡ true → PauseBegins x r before c
pause_begins_to x r before c e = go (or_split _ _ e)
  where
    go : (is_pause_of r c ≡ true) ⊎ (some_up_to (error_begins_at x r before c) x.plan.groups.count ≡ true) → PauseBegins x r before c
    go (inl d) = inl (is_pause r c d)
    go (inr d) =
        let w = some_of (error_begins_at x r before c) x.plan.groups.count d in
        let parts : (error_holds x r w.0 (before ▸ c) ≡ true) × (not (error_holds x r w.0 before) ≡ true) = and_parts _ _ w.3 in
        inr (record { group = w.0; first = w.1; last = w.2; now = parts.0; not_before = not-true _ parts.1 })

is_trigger : (r : ℕ) (c : Command) → is_trigger_of r c ≡ true → c ≡ TriggerNext r
is_trigger r c e = grind (arith, eqb-true)

-- the same over any earlier group
pub record SomeNext (x : Rollout) (r i : ℕ) (earlier : CommandList → Bool) (h : CommandList) : Type 0 where
  pub at_end : EndsInCommand h
  pub this_group : earlier (at_end.before ▸ at_end.command) ≡ true
  pub starts : ((is_paused x r (at_end.before ▸ at_end.command) ≡ false) × (success_holds x r i (at_end.before ▸ at_end.command) ≡ true))
      ⊎ ((at_end.command ≡ TriggerNext r) × (earlier at_end.before ≡ true) × (next_started x r i earlier at_end.before ≡ false))

next_to : (x : Rollout) (r i : ℕ) (earlier : CommandList → Bool) (h : CommandList) → next_started x r i earlier h ≡ true → SomeNext x r i earlier h
next_to x r i earlier (Make approval) e = cc
next_to x r i earlier (h ▸ c) e = go (or_split _ _ e) (next_to x r i earlier h)
  where
    how : ((not (is_paused x r (h ▸ c)) && success_holds x r i (h ▸ c)) ≡ true)
        ⊎ ((is_trigger_of r c && (earlier h && not (next_started x r i earlier h))) ≡ true)
        → ((is_paused x r (h ▸ c) ≡ false) × (success_holds x r i (h ▸ c) ≡ true))
        ⊎ ((c ≡ TriggerNext r) × (earlier h ≡ true) × (next_started x r i earlier h ≡ false))
    how (inl d) =
        let parts : (not (is_paused x r (h ▸ c)) ≡ true) × (success_holds x r i (h ▸ c) ≡ true) = and_parts _ _ d in
        inl (not-true _ parts.0, parts.1)
    how (inr d) =
        let parts : (is_trigger_of r c ≡ true) × ((earlier h && not (next_started x r i earlier h)) ≡ true) = and_parts _ _ d in
        let more : (earlier h ≡ true) × (not (next_started x r i earlier h) ≡ true) = and_parts _ _ parts.1 in
        inr (is_trigger r c parts.0, more.0, not-true _ more.1)

    go : (next_started x r i earlier h ≡ true)
        ⊎ ((earlier (h ▸ c) && ((not (is_paused x r (h ▸ c)) && success_holds x r i (h ▸ c)) ||
        (is_trigger_of r c && (earlier h && not (next_started x r i earlier h))))) ≡ true)
        → (next_started x r i earlier h ≡ true → SomeNext x r i earlier h) → SomeNext x r i earlier (h ▸ c)
    go (inl d) ih = let w = ih d in record { at_end = longer h c w.at_end; this_group = w.this_group; starts = w.starts }
    go (inr d) ih =
        let parts : (earlier (h ▸ c) ≡ true)
        × (((not (is_paused x r (h ▸ c)) && success_holds x r i (h ▸ c)) || (is_trigger_of r c && (earlier h && not (next_started x r i earlier h))))
        ≡ true) = and_parts _ _ d in
        record { at_end = record { before = h; command = c; rest = []; whole = refl }; this_group = parts.0; starts = how (or_split _ _ parts.1) }

pub started_to : (x : Rollout) (r i : ℕ) (h : CommandList) → 1 ≤ i → i < x.plan.groups.count → is_group_started x r (suc i) h ≡ true → NextIsStarted x r i h
started_to x r zero h a b e = absurd (omega (arith, a))
started_to x r (suc i) h a b e =
    let parts : (nat_lt (suc i) x.plan.groups.count ≡ true) × (next_started x r (suc i) (is_group_started x r (suc i)) h ≡ true) = and_parts _ _ e in
    let w : SomeNext x r (suc i) (is_group_started x r (suc i)) h = next_to x r (suc i) (is_group_started x r (suc i)) h parts.1 in
    record {
      at_end = w.at_end;
      this_group = w.this_group;
      starts =
          elim (w.starts) [ inl d ↦ inl d | inr d ↦ inr (d.0, d.1, closed (nat_lt (suc i) x.plan.groups.count) _ d.2) ];
    }
  where
    closed : (a b : Bool) → b ≡ false → (a && b) ≡ false
    closed true b e = e
    closed false b e = refl

-- outcomes
gave : (h : CommandList) (c : Command) (r j : ℕ) (o : Outcome) → outcome_given c (is_canceling h r j) ≡ Some o → Says h c r j o
gave h (Feedback feedback) r j o e = grind arith
gave h (CancelFeedback feedback) r j o e = grind arith
gave h (Cancel t a force) r j o e = word force (is_canceling h r j) refl refl e
  where
    word : (f b : Bool) → force ≡ f → is_canceling h r j ≡ b → cond (f && b) (Some Gone) None ≡ Some o → (force ≡ true) × (is_canceling h r j ≡ true)
        × (o ≡ Gone)
    word true true d k e = (d, k, cc)
    word true false d k e = cc
    word false b d k e = cc
gave h _ r j o e = cc

gives_it : (h : CommandList) (c : Command) (r j : ℕ) (o : Outcome) → Says h c r j o → outcome_given c (is_canceling h r j) ≡ Some o
gives_it h c r j o d = grind arith

at_place : (p : Option ActionPlace) (r j : ℕ) → is_action_place p r j ≡ true → p ≡ Some (record { rollout = r; position = j })
at_place p r j e = grind (arith, and_parts, eqb-true)

on_place : (h : CommandList) (c : Command) (r j : ℕ) → action_of h c ≡ Some (record { rollout = r; position = j }) → is_on_action h c r j ≡ true
on_place h c r j e = rw e (rw (eq-eqb r r refl, eq-eqb j j refl) refl)

-- what is heard on an action is on it, and isn't sent again
heard_place : (h : CommandList) (c : Command) (r j : ℕ) → action_of h c ≡ Some (record { rollout = r; position = j }) → is_again (reports h r j) c ≡ false
    → is_heard h c r j ≡ true
heard_place h c r j e n = rw (on_place h c r j e, n) refl

pub placed : (h : CommandList) (c : Command) (r j : ℕ) → is_heard h c r j ≡ true → (action_of h c ≡ Some (record { rollout = r; position = j }))
    × (is_again (reports h r j) c ≡ false)
placed h c r j e = let w : (is_on_action h c r j ≡ true) × (not (is_again (reports h r j) c) ≡ true) = and_parts _ _ e in
    (at_place (action_of h c) r j w.0, was (is_again (reports h r j) c) w.1)
  where
    was : (b : Bool) → not b ≡ true → b ≡ false
    was true d = cc
    was false d = refl

-- the outcome after one more command
abbrev outcome_after : Option Outcome → Bool → Option Outcome → Option Outcome
outcome_after was on gives = option_or was (cond on gives None)

none_before : (was : Option Outcome) (on : Bool) (gives : Option Outcome) → outcome_after was on gives ≡ None → was ≡ None
none_before was on gives e = grind arith

none_given : (was : Option Outcome) (on : Bool) (gives : Option Outcome) (o : Outcome) → outcome_after was on gives ≡ None → on ≡ true → gives ≡ Some o → ⊥
none_given was on gives o e d k = grind arith

all_none : (was : Option Outcome) (on : Bool) (gives : Option Outcome) → was ≡ None → (on ≡ false) ⊎ (gives ≡ None) → outcome_after was on gives ≡ None
all_none was on gives e h4 = grind arith

pub none_gave : (h : CommandList) (r j : ℕ) → outcome h r j ≡ None → NoneGave h r j
none_gave (Make approval) r j e = tt
none_gave (h ▸ c) r j e =
    let was : outcome h r j ≡ None = none_before (outcome h r j) (is_heard h c r j) _ e in (
      none_gave h r j was,
      λ o g. none_given (outcome h r j) (is_heard h c r j) (outcome_given c (is_canceling h r j)) o e (heard_place h c r j g.0 g.1)
          (gives_it h c r j o g.2),
    )

pub not_given : (h : CommandList) (r j : ℕ) → NoneGave h r j → outcome h r j ≡ None
not_given (Make approval) r j w = refl
not_given (h ▸ c) r j w = go (is_heard h c r j) (outcome_given c (is_canceling h r j)) refl refl (not_given h r j w.0)
  where
    go : (on : Bool) (gives : Option Outcome) → is_heard h c r j ≡ on → outcome_given c (is_canceling h r j) ≡ gives → outcome h r j ≡ None
        → outcome_after (outcome h r j) (is_heard h c r j) (outcome_given c (is_canceling h r j)) ≡ None
    go false gives d k was = all_none (outcome h r j) (is_heard h c r j) (outcome_given c (is_canceling h r j)) was (inl d)
    go true None d k was = all_none (outcome h r j) (is_heard h c r j) (outcome_given c (is_canceling h r j)) was (inr k)
    go true (Some o) d k was = absurd (w.1 o ((placed h c r j d).0, (placed h c r j d).1, gave h c r j o k))

first_to : (h : CommandList) (r j : ℕ) (o : Outcome) → outcome h r j ≡ Some o → FirstOutcome h r j o
first_to (Make approval) r j o e = cc
first_to (h ▸ c) r j o e = go (outcome h r j) refl e (first_to h r j o)
  where
    now : (on : Bool) → is_heard h c r j ≡ on → outcome h r j ≡ None → outcome_after None on (outcome_given c (is_canceling h r j)) ≡ Some o
        → FirstOutcome (h ▸ c) r j o
    now true d was e = record {
      at_end = record { before = h; command = c; rest = []; whole = refl };
      gives = ((placed h c r j d).0, (placed h c r j d).1, gave h c r j o e);
      first = none_gave h r j was;
    }
    now false d was e = cc

    go : (was : Option Outcome) → outcome h r j ≡ was → outcome_after was (is_heard h c r j) (outcome_given c (is_canceling h r j)) ≡ Some o
        → (outcome h r j ≡ Some o → FirstOutcome h r j o) → FirstOutcome (h ▸ c) r j o
    go (Some p) d e ih = let w = ih (d ∙ e) in record { at_end = longer h c w.at_end; gives = w.gives; first = w.first }
    go None d e ih = now (is_heard h c r j) refl d e

stays : (g : CommandList) (cs : List Command) (r j : ℕ) (o : Outcome) → outcome g r j ≡ Some o → outcome (followed_by g cs) r j ≡ Some o
stays g [] r j o e = e
stays g (c ∷ cs) r j o e = stays (g ▸ c) cs r j o (rw e refl)

all_given : (was : Option Outcome) (on : Bool) (gives : Option Outcome) (o : Outcome) → was ≡ None → on ≡ true → gives ≡ Some o → outcome_after was on gives
    ≡ Some o
all_given was on gives o e d k = rw (e, d, k) refl

first_from : (h : CommandList) (r j : ℕ) (o : Outcome) → FirstOutcome h r j o → outcome h r j ≡ Some o
first_from h r j o w =
    let g : CommandList = w.at_end.before in
    let c : Command = w.at_end.command in
    let now : outcome (g ▸ c) r j ≡ Some o = all_given (outcome g r j) (is_heard g c r j) (outcome_given c (is_canceling g r j)) o (not_given g r j w.first)
    (heard_place g c r j w.gives.0 w.gives.1) (gives_it g c r j o w.gives.2) in
    subst (λ (k : CommandList). outcome k r j ≡ Some o) w.at_end.whole (stays (g ▸ c) w.at_end.rest r j o now)

pub outcome_is_first : OutcomeIsFirst
outcome_is_first h r j o = (first_to h r j o, first_from h r j o)

-- starts, from the words
or_true : (a b : Bool) → b ≡ true → (a || b) ≡ true
or_true a b e = grind arith

next_stays : (x : Rollout) (r i : ℕ) (earlier : CommandList → Bool) (g : CommandList) (cs : List Command) → next_started x r i earlier g ≡ true
    → next_started x r i earlier (followed_by g cs) ≡ true
next_stays x r i earlier g [] e = e
next_stays x r i earlier g (c ∷ cs) e = next_stays x r i earlier (g ▸ c) cs (rw e refl)

next_from : (x : Rollout) (r i : ℕ) (earlier : CommandList → Bool) (h : CommandList) → SomeNext x r i earlier h → next_started x r i earlier h ≡ true
next_from x r i earlier h w = subst (λ (k : CommandList). next_started x r i earlier k ≡ true) w.at_end.whole
    (next_stays x r i earlier (w.at_end.before ▸ w.at_end.command) w.at_end.rest now)
  where
    here : (b early paused good trig was next : Bool) → early ≡ true → ((paused ≡ false) × (good ≡ true)) ⊎ ((trig ≡ true) × (was ≡ true) × (next ≡ false))
        → (b || (early && ((not paused && good) || (trig && (was && not next))))) ≡ true
    here b early paused good trig was next k (inl d) = rw (k, d.0, d.1) (or_true b true refl)
    here b early paused good trig was next k (inr d) = rw (k, d.0, d.1, d.2) (or_true b _ (or_true (not paused && good) true refl))

    triggered : (c : Command) → c ≡ TriggerNext r → is_trigger_of r c ≡ true
    triggered c e = rw e (eq-eqb r r refl)

    now : next_started x r i earlier (w.at_end.before ▸ w.at_end.command) ≡ true
    now =
        let g : CommandList = w.at_end.before in
        let c : Command = w.at_end.command in
        here (next_started x r i earlier g) (earlier (g ▸ c)) (is_paused x r (g ▸ c)) (success_holds x r i (g ▸ c)) (is_trigger_of r c) (earlier g)
        (next_started x r i earlier g) w.this_group
        (elim (w.starts) [ inl d ↦ inl d | inr d ↦ inr (triggered w.at_end.command d.0, d.1, d.2) ])

pub started_from : (x : Rollout) (r i : ℕ) (h : CommandList) → 1 ≤ i → i < x.plan.groups.count → NextIsStarted x r i h → is_group_started x r (suc i) h ≡ true
started_from x r zero h a b w = absurd (omega (arith, a))
started_from x r (suc i) h a b w =
    rw (
      there,
      next_from x r (suc i) (is_group_started x r (suc i)) h
          (record { at_end = w.at_end; this_group = w.this_group; starts = elim (w.starts) [ inl d ↦ inl d | inr d ↦ inr (d.0, d.1, opened _ _ there d.2) ] }),
    ) refl
  where
    there : nat_lt (suc i) x.plan.groups.count ≡ true
    there = lt-ltb _ _ b

    opened : (a b : Bool) → a ≡ true → (a && b) ≡ false → b ≡ false
    opened true b e d = d
    opened false b e d = cc

pub started_is : StartedIs
started_is x r i h a b = (started_to x r i h a b, started_from x r i h a b)

-- cancels
-- what was said by a cancel, and by a rejection
is_cancel : (c : Command) (b : Bool) → cancel_standing_said c ≡ Some b → b ≡ true → (t : Bytes) × (a : ℕ) × (force : Bool) × (c ≡ Cancel t a force)
is_cancel c b e d = grind arith

abbrev stands_after : Bool → Option Bool → Bool → Bool
stands_after on said b = cond (on && is_some said) (elim said [ None ↦ false | Some v ↦ v ]) b

silent_after : (h : CommandList) (cs : List Command) (c : Command) (r j : ℕ) → NoneSpeaks h cs r j → (SpeaksOfCancel (followed_by h cs) c r j → ⊥)
    → NoneSpeaks h (cs ++ c ∷ []) r j
silent_after h [] c r j w k = (k, tt)
silent_after h (d ∷ cs) c r j w k = (w.0, silent_after (h ▸ d) cs c r j w.1 k)

stands_to : (h : CommandList) (r j : ℕ) → cancel_stands h r j ≡ true → LastIsCancel h r j
stands_to (Make approval) r j e = cc
stands_to (h ▸ c) r j e = go (is_heard h c r j) (cancel_standing_said c) refl refl e (stands_to h r j)
  where
    more : (SpeaksOfCancel h c r j → ⊥) → LastIsCancel h r j → LastIsCancel (h ▸ c) r j
    more k w = record {
      before = w.before;
      target = w.target;
      action = w.action;
      force = w.force;
      rest = w.rest ++ c ∷ [];
      whole = one_more (w.before ▸ Cancel w.target w.action w.force) w.rest c ∙ ap (λ g. g ▸ c) w.whole;
      on = w.on;
      last = silent_after (w.before ▸ Cancel w.target w.action w.force) w.rest c r j w.last
          (subst (λ (g : CommandList). SpeaksOfCancel g c r j → ⊥) (sym w.whole) k);
    }

    now : (w : (t : Bytes) × (a : ℕ) × (force : Bool) × (c ≡ Cancel t a force)) → is_heard h c r j ≡ true → LastIsCancel (h ▸ c) r j
    now w d = record {
      before = h;
      target = w.0;
      action = w.1;
      force = w.2;
      rest = [];
      whole = ap (λ k. h ▸ k) (sym w.3);
      on = subst (λ (k : Command). is_on_action h k r j ≡ true) w.3 (and_parts _ _ d).0;
      last = tt;
    }

    go : (on : Bool) (said : Option Bool) → is_heard h c r j ≡ on → cancel_standing_said c ≡ said → stands_after on said (cancel_stands h r j) ≡ true
        → (cancel_stands h r j ≡ true → LastIsCancel h r j) → LastIsCancel (h ▸ c) r j
    go false said d k e ih = more (λ s. false≢true (sym d ∙ s.0)) (ih e)
    go true None d k e ih = more (λ s. false≢true (sym (ap (λ (v : Option Bool). is_some v) k) ∙ s.1)) (ih e)
    go true (Some b) d k e ih = now (is_cancel c b k e) d

still_stands : (g : CommandList) (cs : List Command) (r j : ℕ) → NoneSpeaks g cs r j → cancel_stands g r j ≡ true → cancel_stands (followed_by g cs) r j ≡ true
still_stands g [] r j w e = e
still_stands g (c ∷ cs) r j w e = grind (arith, still_stands (g ▸ c) cs r j w.1)

stands_from : (h : CommandList) (r j : ℕ) → LastIsCancel h r j → cancel_stands h r j ≡ true
stands_from h r j w = grind (arith, still_stands)

pub is_open : (o : Option Outcome) → is_none o ≡ true → o ≡ None
is_open o e = grind arith

pub canceling_is_last : CancelingIsLast
canceling_is_last h r j = (to, λ w. both (outcome h r j) (cancel_stands h r j) w.0 (stands_from h r j w.1))
  where
    to : is_canceling h r j ≡ true → (outcome h r j ≡ None) × LastIsCancel h r j
    to e = let parts : (is_none (outcome h r j) ≡ true) × (cancel_stands h r j ≡ true) = and_parts _ _ e in
        (is_open (outcome h r j) parts.0, stands_to h r j parts.1)

    both : (o : Option Outcome) (b : Bool) → o ≡ None → b ≡ true → (is_none o && b) ≡ true
    both o b e d = rw (e, d) refl

-- numbers
length_more : (xs ys : List ActionPlace) → length (xs ++ ys) ≡ length xs + length ys
length_more [] ys = omega arith
length_more (x ∷ xs) ys = let e : length (xs ++ ys) ≡ length xs + length ys = length_more xs ys in omega (arith, e)

length_from : (r a n : ℕ) → length (places_from r a n) ≡ n
length_from r a zero = refl
length_from r a (suc n) = ap (λ k. suc k) (length_from r (suc a) n)

length_new : (h : CommandList) (c : Command) → length (new_places h c) ≡ started_by h c
length_new h (Start r) = of (rollout_at h r)
  where
    of : (x : Option Rollout) → length (places_of r x) ≡ size_at x
    of None = refl
    of (Some x) = length_from r 1 (size_of x)
length_new h _ = cc

pub length_places : (h : CommandList) → length (action_places h) ≡ started_sizes h
length_places (Make approval) = refl
length_places (h ▸ c) = length_more (action_places h) (new_places h c) ∙ rw (length_places h, length_new h c) refl

get_first : (xs ys : List ActionPlace) (i : ℕ) (p : ActionPlace) → slice_get xs i ≡ Some p → slice_get (xs ++ ys) i ≡ Some p
get_first [] ys i p e = cc
get_first (x ∷ xs) ys zero p e = e
get_first (x ∷ xs) ys (suc i) p e = get_first xs ys i p e

get_after : (xs ys : List ActionPlace) (i : ℕ) → slice_get (xs ++ ys) (length xs + i) ≡ slice_get ys i
get_after [] ys i = let e : 0 + i ≡ i = omega arith in rw e refl
get_after (x ∷ xs) ys i = let e : suc (length xs) + i ≡ suc (length xs + i) = omega arith in rw e (get_after xs ys i)

get_from : (r a n i : ℕ) → i < n → slice_get (places_from r a n) i ≡ Some (record { rollout = r; position = a + i })
get_from r a zero i e = absurd (omega (arith, e))
get_from r a (suc n) zero e = let k : a + 0 ≡ a = omega arith in rw k refl
get_from r a (suc n) (suc i) e = let k : suc a + i ≡ a + suc i = omega arith in rw (← k) (get_from r (suc a) n i (omega (arith, e)))

stays_numbered : (g : CommandList) (cs : List Command) (i : ℕ) (p : ActionPlace) → slice_get (action_places g) i ≡ Some p
    → slice_get (action_places (followed_by g cs)) i ≡ Some p
stays_numbered g [] i p e = e
stays_numbered g (c ∷ cs) i p e = stays_numbered (g ▸ c) cs i p (get_first (action_places g) (new_places g c) i p e)

pub numbers_actions : NumbersActions
numbers_actions before r x rest zero e a b = absurd (omega (arith, a))
numbers_actions before r x rest (suc j) e a b =
    let at : action_place (followed_by (before ▸ Start r) rest) (suc (started_sizes before + j)) ≡ Some (record { rollout = r; position = suc j }) =
    stays_numbered (before ▸ Start r) rest (started_sizes before + j) _ here in
    let k : started_sizes before + suc j ≡ suc (started_sizes before + j) = omega arith in
    rw k at
  where
    one : 1 + j ≡ suc j
    one = omega arith

    here : slice_get (action_places before ++ new_places before (Start r)) (started_sizes before + j) ≡ Some (record { rollout = r; position = suc j })
    here = rw (← length_places before) (get_after (action_places before) (new_places before (Start r)) j
        ∙ rw e (subst (λ (n : ℕ). slice_get (places_from r 1 (size_of x)) j ≡ Some (record { rollout = r; position = n })) one
        (get_from r 1 (size_of x) j (omega (arith, b)))))

-- offers: no action of a lesser number would do
abbrev pub is_candidate : Records → Bytes → ActionRecord → Bool
is_candidate rs t a = is_none a.outcome && (is_for rs t a && has_started rs a)

least_from : (rs : Records) (t : Bytes) (k : ℕ) (actions : List ActionRecord) (o : Offer) → first_offer rs t k actions ≡ Some o → (i : ℕ) (a : ActionRecord)
    → slice_get actions i ≡ Some a → k + i < o.action → is_candidate rs t a ≡ false
least_from rs t k [] o e i a g l = cc
least_from rs t k (b ∷ rest) o e i a g l = go (is_candidate rs t b) refl e (least_from rs t (suc k) rest o)
  where
    go : (v : Bool) → is_candidate rs t b ≡ v → cond v (Some (record { action = k; canceling = b.canceling })) (first_offer rs t (suc k) rest) ≡ Some o
        → (first_offer rs t (suc k) rest ≡ Some o → (i : ℕ) (a : ActionRecord) → slice_get rest i ≡ Some a → suc k + i < o.action → is_candidate rs t a ≡ false)
        → is_candidate rs t a ≡ false
    go true d f ih =
        let same : record { action = k; canceling = b.canceling } ≡ o = cc in
        let n : k ≡ o.action = ap (λ (v : Offer). v.action) same in
        absurd (omega (arith, l, n))
    go false d f ih = rest_of i g l
      where
        rest_of : (i : ℕ) → slice_get (b ∷ rest) i ≡ Some a → k + i < o.action → is_candidate rs t a ≡ false
        rest_of zero g l = let same : b ≡ a = cc in subst (λ (v : ActionRecord). is_candidate rs t v ≡ false) same d
        rest_of (suc i) g l = ih f i a g (omega (arith, l))

pub least_offer : (rs : Records) (t : Bytes) (o : Offer) → offer rs t ≡ Some o → (k : ℕ) (a : ActionRecord) → item_numbered rs.actions k ≡ Some a → k < o.action
    → is_candidate rs t a ≡ false
least_offer rs t o e k a g l = grind (arith, least_from)

-- targets
pub not_there : (t : Bytes) (rows : List TargetRow) → last_row_for t rows ≡ None → NotNamed t rows
not_there t [] e = tt
not_there t (row ∷ rows) e = go (last_row_for t rows) (same_bytes row.id t) refl refl e (not_there t rows)
  where
    go : (later : Option TargetRow) (b : Bool) → last_row_for t rows ≡ later → same_bytes row.id t ≡ b → option_or later (cond b (Some row) None) ≡ None
        → (last_row_for t rows ≡ None → NotNamed t rows) → NotNamed t (row ∷ rows)
    go None false d k e ih = (k, ih d)
    go None true d k e ih = cc
    go (Some x) b d k e ih = cc

pub record LastOf (rows : List TargetRow) (t : Bytes) (row : TargetRow) : Type 0 where
  pub earlier : List TargetRow
  pub later : List TargetRow
  pub whole : rows ≡ earlier ++ row ∷ later
  pub names : same_bytes row.id t ≡ true
  pub last_in_command : NotNamed t later

last_of : (t : Bytes) (rows : List TargetRow) (row : TargetRow) → last_row_for t rows ≡ Some row → LastOf rows t row
last_of t [] row e = cc
last_of t (first ∷ rows) row e = go (last_row_for t rows) (same_bytes first.id t) refl refl e (last_of t rows row)
  where
    go : (later : Option TargetRow) (b : Bool) → last_row_for t rows ≡ later → same_bytes first.id t ≡ b → option_or later (cond b (Some first) None) ≡ Some row
        → (last_row_for t rows ≡ Some row → LastOf rows t row) → LastOf (first ∷ rows) t row
    go (Some x) b d k e ih = let w = ih (d ∙ e) in
        record { earlier = first ∷ w.earlier; later = w.later; whole = ap (λ xs. first ∷ xs) w.whole; names = w.names; last_in_command = w.last_in_command }
    go None true d k e ih = let same : first ≡ row = cc in
        record {
          earlier = [];
          later = rows;
          whole = ap (λ (x : TargetRow). x ∷ rows) same;
          names = subst (λ (x : TargetRow). same_bytes x.id t ≡ true) same k;
          last_in_command = not_there t rows d;
        }
    go None false d k e ih = cc

never_more : (t : Bytes) (cs : List Command) (c : Command) → NeverNamed t cs → NotNamed t (import_rows_of c) → NeverNamed t (cs ++ c ∷ [])
never_more t [] c w k = (k, tt)
never_more t (d ∷ cs) c w k = (w.0, never_more t cs c w.1 k)

-- a command with rows is an import
rows_are : (c : Command) (rows : List TargetRow) (row : TargetRow) (earlier later : List TargetRow) → import_rows_of c ≡ earlier ++ row ∷ later
    → c ≡ PutTargets (earlier ++ row ∷ later)
rows_are (PutTargets xs) rows row earlier later e = ap PutTargets e
rows_are _ rows row [] later e = cc
rows_are _ rows row (x ∷ earlier) later e = cc

pub row_is_last : (h : CommandList) (t : Bytes) (row : TargetRow) → last_row_of t h ≡ Some row → LastRow h t row
row_is_last (Make approval) t row e = cc
row_is_last (h ▸ c) t row e = go (last_row_for t (import_rows_of c)) refl e (row_is_last h t row)
  where
    go : (here : Option TargetRow) → last_row_for t (import_rows_of c) ≡ here → option_or here (last_row_of t h) ≡ Some row
        → (last_row_of t h ≡ Some row → LastRow h t row) → LastRow (h ▸ c) t row
    go None d e ih =
        let w = ih e in
        record {
          before = w.before;
          earlier = w.earlier;
          later = w.later;
          rest = w.rest ++ c ∷ [];
          whole = one_more (w.before ▸ PutTargets (w.earlier ++ row ∷ w.later)) w.rest c ∙ ap (λ g. g ▸ c) w.whole;
          names = w.names;
          last_in_command = w.last_in_command;
          last = never_more t w.rest c w.last (not_there t (import_rows_of c) d);
        }
    go (Some x) d e ih =
        let w = last_of t (import_rows_of c) row (d ∙ e) in
        record {
          before = h;
          earlier = w.earlier;
          later = w.later;
          rest = [];
          whole = ap (λ k. h ▸ k) (sym (rows_are c (import_rows_of c) row w.earlier w.later w.whole));
          names = w.names;
          last_in_command = w.last_in_command;
          last = tt;
        }

-- the other directions
some_there : (p : ℕ → Bool) (n i : ℕ) → 1 ≤ i → i ≤ n → p i ≡ true → some_up_to p n ≡ true
some_there p zero i a b e = absurd (omega (arith, a, b))
some_there p (suc n) i a b e = go (cases_lt i (suc n)) (some_there p n i a)
  where
    go : (i < suc n) ⊎ (suc n ≤ i) → (i ≤ n → p i ≡ true → some_up_to p n ≡ true) → (some_up_to p n || p (suc n)) ≡ true
    go (inl l) ih = rw (ih (omega (arith, l)) e) refl
    go (inr l) ih = let same : i ≡ suc n = omega (arith, l, b) in or_true (some_up_to p n) (p (suc n)) (subst (λ (k : ℕ). p k ≡ true) same e)

pub pause_begins_from : (x : Rollout) (r : ℕ) (before : CommandList) (c : Command) → PauseBegins x r before c → pause_begins x r before c ≡ true
pause_begins_from x r before c (inl e) = grind (arith, eq-eqb)
pause_begins_from x r before c (inr w) = or_true (is_pause_of r c) (some_up_to (error_begins_at x r before c) x.plan.groups.count)
    (some_there (error_begins_at x r before c) x.plan.groups.count w.group w.first w.last (both _ _ w.now w.not_before))
  where
    both : (a b : Bool) → a ≡ true → b ≡ false → (a && not b) ≡ true
    both a b e d = rw (e, d) refl

pub none_from : (rs : Records) (t : Bytes) (k : ℕ) (actions : List ActionRecord) → first_offer rs t k actions ≡ None → (i : ℕ) (a : ActionRecord)
    → slice_get actions i ≡ Some a → is_candidate rs t a ≡ false
none_from rs t k [] e i a g = cc
none_from rs t k (b ∷ rest) e i a g = go (is_candidate rs t b) refl e (none_from rs t (suc k) rest)
  where
    go : (v : Bool) → is_candidate rs t b ≡ v → cond v (Some (record { action = k; canceling = b.canceling })) (first_offer rs t (suc k) rest) ≡ None
        → (first_offer rs t (suc k) rest ≡ None → (i : ℕ) (a : ActionRecord) → slice_get rest i ≡ Some a → is_candidate rs t a ≡ false) → is_candidate rs t a
        ≡ false
    go true d f ih = cc
    go false d f ih = rest_of i g
      where
        rest_of : (i : ℕ) → slice_get (b ∷ rest) i ≡ Some a → is_candidate rs t a ≡ false
        rest_of zero g = let same : b ≡ a = cc in subst (λ (v : ActionRecord). is_candidate rs t v ≡ false) same d
        rest_of (suc i) g = ih f i a g
