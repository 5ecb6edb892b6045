-- The own group decides: the last started group, where it is another one, has no success that is still to be followed.
use Rattle.campaign_core.proofs.Common.{◌≡◌, ◌<◌, ◌≤◌, ℕ, zero, suc, ◌+◌, Bool, true, false, ◌&&◌, ◌||◌, not, cond, List, Option, None, refl, sym, ap, subst}
use Rattle.campaign_core.proofs.Common.{◌∙◌, arith, inl, inr, nat_eq, nat_lt, cases_lt, cases_order, eq-eqb, eqb-true, le-ltb, lt-ltb, ltb-true, ne_eqb}
use Rattle.campaign_core.proofs.Common.{Invariant, invariant_of, IsPlace, its_group, ActionPlace, CommandList, ◌▸◌, IsLast, IsView, error_begins}
use Rattle.campaign_core.proofs.Common.{feedback_pauses, good_after, last_with, next_if, starts_next, is_group_started, is_paused, is_rollout_started}
use Rattle.campaign_core.proofs.Common.{each_from, group_view, last_started, view_of, action_in, group_in, rollout_in, Rollout, rule_at, size_in}
use Rattle.campaign_core.proofs.Common.{group_is_started, group_numbered, number_of_group, Outcome, Good, Bad, Gone, ActionRecord, GroupRecord, Effects}
use Rattle.campaign_core.proofs.Common.{GroupView, RolloutView, HasPlace, has_place, FollowsOutcome, IsOwnView, OwnDecides, OwnGroupDecides, effects_by}
use Rattle.campaign_core.proofs.Common.{effects_of, following, own_effects, own_view_of, waits, OwnView, and-not_self}
use Rattle.std.proofs.Math.Bool.{and-false}
use Rattle.rollout_machine.proofs.EffectLaws.{feedback_follows, settled}
use Rattle.rollout_machine.proofs.Ties.{IsFollowed, find_group, find_holding, last_is, views}
use Rattle.rollout_machine.specs.Counts.{reaches, success_holds, tally}
use Rattle.campaign_core.proofs.RolloutLemmas.{number_is}
use Rattle.campaign_core.proofs.PlacedActions.{IsMembers, is_members}
use Rattle.campaign_core.specs.declared.own_group.Following.{Following}
use Rattle.campaign_core.specs.declared.own_group.Following.TheVariants.{Nothing, Pauses, StartsNext}

-- ---- by a view

abbrev effects : Bool → Option ℕ → Effects
effects p s = record { pauses = p; starts = s }

same_effects : (p q : Bool) (s t : Option ℕ) → p ≡ q → s ≡ t → effects p s ≡ effects q t
same_effects p q s t e d = rw (e, d) refl

starts_so : (b : Bool) (i : ℕ) → effects false (next_if b i) ≡ effects_by i (cond b StartsNext Nothing)
starts_so b i = grind arith

pauses_so : (b : Bool) (i : ℕ) → effects b None ≡ effects_by i (cond b Pauses Nothing)
pauses_so b i = grind arith

no_error : (bad size percent : ℕ) → error_begins bad (bad + 0) size percent ≡ false
no_error bad size percent = let e : bad + 0 ≡ bad = omega arith in rw e (and-not_self (reaches bad size percent))

-- no start where there was none to come
none_comes : (lt paused pauses reached : Bool) → (lt ≡ true → (not paused && reached) ≡ false) → (lt && (not (paused || pauses) && reached)) ≡ false
none_comes lt paused pauses reached h = grind arith

same_view : (a b : GroupView) → a.number ≡ b.number → a.size ≡ b.size → a.ok ≡ b.ok → a.bad ≡ b.bad → a.success ≡ b.success → a.error ≡ b.error → a ≡ b
same_view a b n s o d u e = λ i. record { number = n i; size = s i; ok = o i; bad = d i; success = u i; error = e i }

started : (paused p : Bool) (groups : ℕ) (own last : GroupView) → own ≡ last → p ≡ false → (b : Bool) → b ≡ true
    → next_if (nat_lt last.number groups && (not (paused || p) && reaches (last.ok + cond (b && true) 1 0) last.size last.success)) last.number
    ≡ next_if ((b && nat_lt own.number groups) && (not paused && reaches (own.ok + 1) own.size own.success)) own.number
started paused p groups own last same calm b is = grind arith

-- the own view of a view of both groups
abbrev own_of : RolloutView → OwnView
own_of v = record { paused = v.paused; own = v.own; next_waits = nat_eq v.own.number v.last.number && nat_lt v.own.number v.groups }

module _ (v : RolloutView) (x : Rollout) (r g l : ℕ) (h : CommandList) (least : 1 ≤ l) (w : IsView v x r g l h) where
  none_starts : (p : Bool) → starts_next v (v.paused || p) (v.last.ok + 0) ≡ None
  none_starts p = ap (λ b. next_if b v.last.number) (none_comes _ v.paused p _ calm)
    where
      calm : nat_lt v.last.number v.groups ≡ true → (not v.paused && reaches (v.last.ok + 0) v.last.size v.last.success) ≡ false
      calm more =
          let low = ltb-true _ _ more in
          let within : l < x.plan.groups.count = omega (arith, low, w.last.number, w.groups) in
          let ok : v.last.ok + 0 ≡ v.last.ok = omega arith in
          let same : (not v.paused && reaches (v.last.ok + 0) v.last.size v.last.success) ≡ (not (is_paused x r h) && success_holds x r l h) =
          rw (w.paused, ok, w.last.ok, w.last.size, w.last.success) refl in
          same ∙ settled x r l h least w.sound w.is_last within

  other : (o : Outcome) → (b : Bool) → (nat_eq v.own.number v.last.number && b) ≡ false
      → starts_next v (v.paused || feedback_pauses v o) (v.last.ok + cond (nat_eq v.own.number v.last.number && b) 1 0) ≡ None
  other o b is = ap (λ (c : Bool). starts_next v (v.paused || feedback_pauses v o) (v.last.ok + cond c 1 0)) is ∙ none_starts (feedback_pauses v o)

  good : (b : Bool) → nat_eq v.own.number v.last.number ≡ b
      → starts_next v (v.paused || feedback_pauses v Good) (good_after v Good)
      ≡ next_if ((nat_eq v.own.number v.last.number && nat_lt v.own.number v.groups) && (not v.paused && reaches (v.own.ok + 1) v.own.size v.own.success))
      v.own.number
  good true is =
      let number : v.own.number ≡ v.last.number = eqb-true _ _ is in
      let group : g ≡ l = sym w.own.number ∙ number ∙ w.last.number in
      started v.paused (feedback_pauses v Good) v.groups v.own v.last (same_group number group) (no_error v.own.bad v.own.size v.own.error) _ is
    where
      same_group : v.own.number ≡ v.last.number → g ≡ l → v.own ≡ v.last
      same_group number group = same_view v.own v.last number
          (w.own.size ∙ rw group (sym w.last.size)) (w.own.ok ∙ rw group (sym w.last.ok)) (w.own.bad ∙ rw group (sym w.last.bad))
          (w.own.success ∙ rw group (sym w.last.success)) (w.own.error ∙ rw group (sym w.last.error))
  good false is = other Good true (rw is refl) ∙ sym (rw is refl)

  by_view : (o : Outcome) → effects_of v o ≡ own_effects (own_of v) o
  by_view Good = same_effects _ false _ _ (no_error v.own.bad v.own.size v.own.error) (good _ refl) ∙ starts_so _ v.own.number
  by_view Bad = same_effects _ _ _ None refl (other Bad false (and-false _)) ∙ pauses_so _ v.own.number
  by_view Gone = same_effects _ false _ None (no_error v.own.bad v.own.size v.own.error) (other Gone false (and-false _))

-- ---- by the records

not_numbered : (x : Rollout) (r : ℕ) (h : CommandList) (a n i : ℕ) → a + n ≤ i → group_numbered i (each_from (group_in x r h) a n) ≡ None
not_numbered x r h a zero i past = refl
not_numbered x r h a (suc n) i past = rw (ne_eqb a i (λ e. absurd (omega (arith, past, e)))) (not_numbered x r h (suc a) n i (omega (arith, past)))

module _ (x : Rollout) (r g l : ℕ) (h : CommandList) (f : IsFollowed x r h l) (low : 1 ≤ g) (high : g ≤ x.plan.groups.count) where
  abbrev gs : List GroupRecord
  gs = each_from (group_in x r h) 1 x.plan.groups.count

  -- the group is the last started one, and another one is behind it
  waits_next : (nat_eq g l && nat_lt g x.plan.groups.count) ≡ (group_is_started (group_numbered g gs) && waits (group_numbered (g + 1) gs))
  waits_next = rw (find_group x r h 1 x.plan.groups.count g low (omega (arith, high))) (elim (cases_lt g x.plan.groups.count) [
    | inl more ↦ rw (find_group x r h 1 x.plan.groups.count (g + 1) (omega arith) (omega (arith, more)), lt-ltb _ _ more) (elim (cases_order g l) [
      | inl same ↦ rw (eq-eqb g l same, f.is_last.up_to g low (omega (arith, same)), f.is_last.beyond (g + 1) (omega (arith, same))) refl
      | inr (inl less) ↦ rw (
        ne_eqb g l (λ e. absurd (omega (arith, less, e))),
        f.is_last.up_to g low (omega (arith, less)),
        f.is_last.up_to (g + 1) (omega arith) (omega (arith, less)),
      ) refl
      | inr (inr more) ↦ rw (ne_eqb g l (λ e. absurd (omega (arith, more, e))), f.is_last.beyond g more) refl
    ])
    | inr all ↦ rw (not_numbered x r h 1 x.plan.groups.count (g + 1) (omega (arith, all)), le-ltb _ _ all)
        (and-false (nat_eq g l) ∙ sym (and-false (is_group_started x r g h)))
  ])

  same_own : own_of (view_of (rollout_in h r x) g) ≡ own_view_of (rollout_in h r x) g
  same_own = ap (λ (b : Bool). record { paused = is_paused x r h; own = group_view (rollout_in h r x) g; next_waits = b }) (numbers ∙ waits_next)
    where
      numbers : (nat_eq (group_view (rollout_in h r x) g).number (group_view (rollout_in h r x) (last_started gs)).number
          && nat_lt (group_view (rollout_in h r x) g).number x.plan.groups.count) ≡ (nat_eq g l && nat_lt g x.plan.groups.count)
      numbers = rw (number_is (rollout_in h r x) g, number_is (rollout_in h r x) (last_started gs), last_is x r l h f.is_last) refl

  in_group : 1 ≤ l → (o : Outcome) → effects_of (view_of (rollout_in h r x) g) o ≡ own_effects (own_view_of (rollout_in h r x) g) o
  in_group least o = by_view (view_of (rollout_in h r x) g) x r g l h least (views x r g l h f least low high) o
      ∙ ap (λ (v : OwnView). own_effects v o) same_own

-- where a group is started, there is a last one
some_last : (x : Rollout) (r g l : ℕ) (h : CommandList) → 1 ≤ g → IsLast x r h l → is_group_started x r g h ≡ true → 1 ≤ l
some_last x r g l h low w begun = grind arith

at_place : (h : CommandList) (p : ActionPlace) (w : IsPlace h p) (l : ℕ) → IsFollowed w.rollout p.rollout h l → 1 ≤ l
    → OwnDecides (rollout_in h p.rollout w.rollout) (action_in h p)
at_place h p w l f least o =
    let x = w.rollout in
    let own = its_group h p w in
    let found = find_holding x p.rollout h _ p.position w.sound own in
    subst (λ i. effects_of (view_of (rollout_in h p.rollout x) i) o ≡ own_effects (own_view_of (rollout_in h p.rollout x) i) o) (sym (ap number_of_group found))
    (in_group x p.rollout _ l h f own.first own.last least o)

pub own_group_decides : OwnGroupDecides
own_group_decides h k a x valid numbered there =
    let w : Invariant h = invariant_of h valid in
    let at : HasPlace h k a = has_place h k a numbered in
    let it : IsMembers h a x = is_members h valid k a x numbered there in
    let p = it.place in
    let f = w.follows p.rollout it.placed.rollout it.placed.there in
    let begun = w.acted k at.place at.numbered in
    let same : at.place.rollout ≡ p.rollout = sym (ap (λ (b : ActionRecord). b.rollout) at.is) ∙ ap (λ (b : ActionRecord). b.rollout) it.is in
    let least = some_last it.placed.rollout p.rollout 1 (w.last p.rollout) h (omega arith) f.is_last (ap (λ r. is_rollout_started r h) (sym same) ∙ begun) in
    subst (λ b. OwnDecides x b) (sym it.is) (subst (λ y. OwnDecides y (action_in h p)) it.same (at_place h p it.placed (w.last p.rollout) f least))

-- ---- by a command list

-- what the last started group is seen as
abbrev last_seen : Rollout → ℕ → ℕ → CommandList → GroupView
last_seen x r l h = record {
  number = l;
  size = size_in x l;
  ok = tally Good x r l h;
  bad = tally Bad x r l h;
  success = (rule_at x.plan l).success;
  error = (rule_at x.plan l).error;
}

abbrev both_seen : OwnView → Rollout → ℕ → ℕ → CommandList → RolloutView
both_seen v x r l h = record { paused = v.paused; groups = x.plan.groups.count; own = v.own; last = last_seen x r l h }

both_viewed : (v : OwnView) (x : Rollout) (r g l : ℕ) (h : CommandList) → IsOwnView v x r g l h → IsView (both_seen v x r l h) x r g l h
both_viewed v x r g l h w = grind arith

pub follows_outcome : (v : OwnView) (o : Outcome) (f : Following) → f ≡ following v o → FollowsOutcome v o f
follows_outcome v o f is x r g j l h c w started a =
    let both = both_seen v x r l h in
    let least : 1 ≤ l = some_last x r g l h a.first w.is_last (started.started g j a.first a.within (rw (a.on, eq-eqb r r refl, eq-eqb j j refl) refl)) in
    let waits : v.next_waits ≡ (nat_eq v.own.number l && nat_lt v.own.number x.plan.groups.count) = w.next_waits
    ∙ ap (λ i. nat_eq i l && nat_lt i x.plan.groups.count) (sym w.own.number) in
    let same : own_of both ≡ v = λ i. record { paused = v.paused; own = v.own; next_waits = sym waits i } in
    let effects_are : effects_of both o ≡ effects_by g f = by_view both x r g l h least (both_viewed v x r g l h w) o
    ∙ ap (λ (u : OwnView). own_effects u o) same ∙ ap (λ i. effects_by i (following v o)) w.own.number ∙ ap (effects_by g) (sym is) in
    subst (λ (e : Effects). (is_paused x r (h ▸ c) ≡ (e.pauses || is_paused x r h)) × IsLast x r (h ▸ c) (last_with e.starts l)) effects_are
    (feedback_follows both o (effects_of both o) refl refl x r g j l h c (both_viewed v x r g l h w) started a)
