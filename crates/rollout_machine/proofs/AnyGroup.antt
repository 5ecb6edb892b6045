-- Of the groups of a rollout one holds a place.
use Rattle.rollout_machine.proofs.OfferCommon.{◌≡◌, ◌≤◌, ◌<◌, inl, inr, ℕ, zero, suc, ◌+◌, Bool, true, false, ◌&&◌, ◌||◌, refl, sym, ap, ◌∙◌, subst, arith}
use Rattle.rollout_machine.proofs.OfferCommon.{Some}
use Rattle.rollout_machine.proofs.OfferCommon.{cases_Bool, cases_eq, item_numbered, CommandList, ◌▸◌, ActionPlace, holds_position, is_group_started, each_from}
use Rattle.rollout_machine.proofs.OfferCommon.{action_in, group_in, rollout_in, bounds_in, has_started, ActionRecord, GroupRecord, RolloutRecord, IsOwnGroup}
use Rattle.rollout_machine.proofs.OfferCommon.{held}
use Rattle.rollout_machine.proofs.OfferCommon.{in_bounds, one_group, invariant_of, IsPlace, its_group, rollout_numbered, StartedByAny, StartedByAnyThen}
use Rattle.std.proofs.Math.Bool.{or-false}
use Rattle.std.specs.List.{list_any}
use Rattle.rollout_machine.specs.Records.{records}
use Rattle.rollout_machine.proofs.OfferPlaces.{IsAt, found, group_at, placed, started_is}

abbrev tells_of : ℕ → GroupRecord → Bool
tells_of j g = holds_position j g.bounds && g.started

module _ (h : CommandList) (p : ActionPlace) (w : IsPlace h p) where
  abbrev g : ℕ
  g = group_at h p w

  place : IsOwnGroup w.rollout g p.position
  place = its_group h p w

  own : holds_position p.position (bounds_in w.rollout g) ≡ true
  own = held w.rollout g p.position place.within

  -- no other group holds it
  other : (a : ℕ) → 1 ≤ a → (a ≡ g → ⊥) → holds_position p.position (bounds_in w.rollout a) ≡ false
  other a low apart = elim (cases_Bool (holds_position p.position (bounds_in w.rollout a))) [
    | inr none ↦ none
    | inl this ↦ absurd (apart (one_group w.rollout g a p.position w.sound place.first low place.within (in_bounds w.rollout a p.position this)))
  ]

  none_from : (a n : ℕ) → g < a → list_any (tells_of p.position) (each_from (group_in w.rollout p.rollout h) a n) ≡ false
  none_from a zero past = refl
  none_from a (suc n) past =
      ap (λ b. (b && is_group_started w.rollout p.rollout a h) || list_any (tells_of p.position) (each_from (group_in w.rollout p.rollout h) (suc a) n))
      (other a (omega (arith, past)) (λ e. omega (arith, e, past))) ∙ none_from (suc a) n (omega (arith, past))

  any_from : (a n : ℕ) → 1 ≤ a → a ≤ g → g < a + n → list_any (tells_of p.position) (each_from (group_in w.rollout p.rollout h) a n)
      ≡ is_group_started w.rollout p.rollout g h
  any_from a zero one low high = absurd (omega (arith, low, high))
  any_from a (suc n) one low high = elim (cases_eq a g) [
    | inl same ↦
        let here : holds_position p.position (bounds_in w.rollout a) ≡ true = ap (λ k. holds_position p.position (bounds_in w.rollout k)) same ∙ own in
        ap (λ b. (b && is_group_started w.rollout p.rollout a h) || list_any (tells_of p.position) (each_from (group_in w.rollout p.rollout h) (suc a) n)) here
        ∙ ap (λ b. is_group_started w.rollout p.rollout a h || b) (none_from (suc a) n (omega (arith, same))) ∙ or-false _
        ∙ ap (λ k. is_group_started w.rollout p.rollout k h) same
    | inr apart ↦
        ap (λ b. (b && is_group_started w.rollout p.rollout a h) || list_any (tells_of p.position) (each_from (group_in w.rollout p.rollout h) (suc a) n))
        (other a one apart)
        ∙ any_from (suc a) n (omega arith) (past a g low apart) (omega (arith, high))
  ]
    where
      past : (a i : ℕ) → a ≤ i → (a ≡ i → ⊥) → suc a ≤ i
      past a i l ne = omega arith

  -- whenever the action's record is taken
  pub any_tells : (later : CommandList) (x : RolloutRecord) → item_numbered (records h).rollouts p.rollout ≡ Some x
      → has_started (records h) (action_in later p) ≡ list_any (tells_of p.position) x.groups
  unfolding records
  any_tells later x there =
      let both : Some (rollout_in h p.rollout w.rollout) ≡ Some x = sym (rollout_numbered h p.rollout w.rollout w.there) ∙ there in
      let same : rollout_in h p.rollout w.rollout ≡ x = cc in
      started_is h later p w ∙ sym (any_from 1 w.rollout.plan.groups.count (omega arith) place.first (omega (arith, place.last)))
      ∙ ap (λ (y : RolloutRecord). list_any (tells_of p.position) y.groups) same

pub started_by_any : StartedByAny
started_by_any h k p x v at there = any_tells h p ((invariant_of h v).placed k p at) h x there

pub started_by_any_then : StartedByAnyThen
started_by_any_then h c zero a x v at there = cc
started_by_any_then h c (suc i) a x v at there =
    let it : IsAt (h ▸ c) i a = found (h ▸ c) i a at in
    let rollout : it.place.rollout ≡ a.rollout = ap (λ (b : ActionRecord). b.rollout) it.same in
    subst (λ (b : ActionRecord). has_started (records h) b ≡ list_any (tells_of b.position) x.groups) it.same
    (any_tells h it.place (placed h c i it.place v it.there) (h ▸ c) x (ap (item_numbered (records h).rollouts) rollout ∙ there))
