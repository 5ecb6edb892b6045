-- What is known of each action of a valid list: which group it is in, and what it counts for before and after a command.
use native.Mathlib.Omega.{arith}
use Rattle.rollout_machine.proofs.OfferCommon.{◌≡◌, ◌≢◌, ◌≤◌, ◌⊎◌, inl, inr, ℕ, suc, Bool, true, false, ◌&&◌, ◌||◌, [], refl, sym, ap, subst, ◌∙◌, Option}
use Rattle.rollout_machine.proofs.OfferCommon.{Some, None}
use Rattle.rollout_machine.proofs.OfferCommon.{nat_eq, slice_get, unwrap_or, cases_Bool, and_parts, false≢true, eqb-true, eq-eqb, ActionPlace, action_of}
use Rattle.rollout_machine.proofs.OfferCommon.{action_places, cancel_stands, is_on_action, new_places, outcome, item_numbered, same_bytes, CommandList}
use Rattle.rollout_machine.proofs.OfferCommon.{Make, ◌▸◌, Bytes, Command, HasSoundPlan, IsInGroup, StartedOnly, holds_position, is_group_started, is_start_of}
use Rattle.rollout_machine.proofs.OfferCommon.{StartsGroup, action_in, Rollout, bounds_in, rollout_at, size_of, has_started, is_for, member_at, IsValid}
use Rattle.rollout_machine.proofs.OfferCommon.{ActionRecord}
use Rattle.rollout_machine.proofs.OfferCommon.{group_of, held, in_bounds, one_group, accepted, admitted, either_numbered, invariant_of, positive}
use Rattle.rollout_machine.proofs.OfferCommon.{new_rollout_there}
use Rattle.rollout_machine.proofs.OfferCommon.{stays_there, same_true, IsPlace, has_started_is, its_group, IsAccepted, rollout_numbered}
use Rattle.rollout_machine.specs.Records.{records}
use Rattle.rollout_machine.proofs.Actions.{get_map, off_action}
use Rattle.rollout_machine.proofs.Elsewhere.{one_group_starts}
use Rattle.rollout_machine.proofs.Offers.{some_item}
use Rattle.rollout_machine.proofs.Starts.{kept_started}
use Rattle.rollout_machine.proofs.Tallies.{not_before, still_open}

same_some : {X : Type 0} {x y : X} → Some x ≡ Some y → x ≡ y
same_some e = cc

-- each action after a command is of a rollout that was there before it
pub placed : (h : CommandList) (c : Command) (i : ℕ) (p : ActionPlace) → IsValid (h ▸ c) → slice_get (action_places (h ▸ c)) i ≡ Some p → IsPlace h p
placed h c i p v e = go (either_numbered (action_places h) (new_places h c) (suc i) p e)
  where
    go : (item_numbered (action_places h) (suc i) ≡ Some p)
        ⊎ ((item_numbered (action_places h) (suc i) ≡ None) × ((j : ℕ) × (slice_get (new_places h c) j ≡ Some p))) → IsPlace h p
    go (inl at) = (invariant_of h v.0).placed (suc i) p at
    go (inr new) =
        let (x, d) = new_rollout_there h c new.1.0 p v.2 new.1.1 in
        let w : IsPlace (h ▸ c) p = (invariant_of (h ▸ c) v).placed (suc i) p e in
        let same : w.rollout ≡ x = same_some (sym w.there ∙ stays_there h c p.rollout x d) in
        record {
          rollout = x;
          there = d;
          sound = subst HasSoundPlan same w.sound;
          low = w.low;
          high = subst (λ (y : Rollout). p.position ≤ size_of y) same w.high;
        }

abbrev pub later : (h : CommandList) (c : Command) (p : ActionPlace) → IsPlace h p → IsPlace (h ▸ c) p
later h c p w = record { rollout = w.rollout; there = stays_there h c p.rollout w.rollout w.there; sound = w.sound; low = w.low; high = w.high }

abbrev pub group_at : (h : CommandList) (p : ActionPlace) → IsPlace h p → ℕ
group_at h p w = group_of w.rollout p.position

pub started_is : (h h' : CommandList) (p : ActionPlace) (w : IsPlace h p) → has_started (records h) (action_in h' p)
    ≡ is_group_started w.rollout p.rollout (group_at h p w) h
started_is h h' p w = has_started_is h h' p w.rollout _ w.there w.sound (its_group h p w)

pub for_is : (h h' : CommandList) (t : Bytes) (p : ActionPlace) (w : IsPlace h p) → is_for (records h) t (action_in h' p)
    ≡ same_bytes (unwrap_or (item_numbered w.rollout.members p.position) []) t
unfolding records
for_is h h' t p w = ap (λ o. same_bytes (member_at o p.position) t) (rollout_numbered h p.rollout w.rollout w.there)

-- the place of an action of the records
pub record IsAt (h : CommandList) (i : ℕ) (a : ActionRecord) : Type 0 where
  pub place : ActionPlace
  pub there : slice_get (action_places h) i ≡ Some place
  pub same : action_in h place ≡ a

pub found : (h : CommandList) (i : ℕ) (a : ActionRecord) → slice_get (records h).actions i ≡ Some a → IsAt h i a
unfolding records
found h i a e = grind (arith, get_map)

-- ---- no action of a group that isn't started is canceling

pub stands_not : (h : CommandList) → IsValid h → (r : ℕ) (x : Rollout) → rollout_at h r ≡ Some x → (i j : ℕ) → 1 ≤ i → IsInGroup x i j
    → is_group_started x r i h ≡ false → cancel_stands h r j ≡ false
stands_not (Make approval) v r x d i j low w e = refl
stands_not (h ▸ c) v r x d i j low w e = go (λ at k. stands_not h v.0 r x at i j low w k) (rollout_at h r) refl
  where
    go : (rollout_at h r ≡ Some x → is_group_started x r i h ≡ false → cancel_stands h r j ≡ false) → (o : Option Rollout) → rollout_at h r ≡ o
        → cancel_stands (h ▸ c) r j ≡ false
    go ih None none = elim (cases_Bool (is_start_of r c)) [
      | inl t ↦ (let (y, k) = (admitted h c (invariant_of h v.0) v.1 v.2).begins r t in let both : Some y ≡ None = sym k ∙ none in cc)
      | inr f ↦ ((invariant_of (h ▸ c) v).fresh r (rw (((invariant_of h v.0).unmade r none).started, f) refl)).stands j
    ]
    go ih (Some y) there =
        let same : y ≡ x = same_some (sym (stays_there h c r y there) ∙ d) in
        let at : rollout_at h r ≡ Some x = there ∙ ap (λ (z : Rollout). Some z) same in
        let only : StartedOnly x r h c = (accepted h c v.0 v.2).started r x at in
        let off : is_on_action h c r j ≡ false = elim (cases_Bool (is_on_action h c r j)) [
          | inl t ↦ absurd (false≢true (sym e ∙ kept_started x r i h c (only.started i j low w t)))
          | inr f ↦ f
        ] in
        rw off (ih at (not_before x r i h c e))

-- ---- a group that the command starts

abbrev is_within : ActionPlace → ℕ → Rollout → ℕ → Bool
is_within p r x i = nat_eq p.rollout r && holds_position p.position (bounds_in x i)

module _ (h : CommandList) (c : Command) (r i : ℕ) (x : Rollout) (v : IsValid (h ▸ c)) (d : rollout_at h r ≡ Some x) (s : StartsGroup x r i h c) where
  w : IsAccepted h c
  w = accepted h c v.0 v.2

  low : 1 ≤ i
  low = positive x r i (h ▸ c) s.now

  -- its actions are open, and no cancel stands
  pub fresh : (p : ActionPlace) → is_within p r x i ≡ true → (outcome (h ▸ c) p.rollout p.position ≡ None)
      × (cancel_stands (h ▸ c) p.rollout p.position ≡ false)
  fresh p e =
      let parts : (nat_eq p.rollout r ≡ true) × (holds_position p.position (bounds_in x i) ≡ true) = and_parts _ _ e in
      let same : p.rollout ≡ r = eqb-true _ _ parts.0 in
      let inside : IsInGroup x i p.position = in_bounds x i p.position parts.1 in
      let off : is_on_action h c r p.position ≡ false = elim (cases_Bool (is_on_action h c r p.position)) [
        | inl t ↦ absurd (false≢true (sym s.before ∙ (w.started r x d).started i p.position low inside t))
        | inr f ↦ f
      ] in
      let stands : cancel_stands (h ▸ c) r p.position ≡ false = rw off (stands_not h v.0 r x d i p.position low inside s.before) in (
        ap (λ q. outcome (h ▸ c) q p.position) same ∙ still_open x r h c (w.started r x d) (w.follows r x d).outcomes i p.position low inside s.before,
        ap (λ q. cancel_stands (h ▸ c) q p.position) same ∙ stands,
      )

  -- an action counts as started after the command where it did before, or is in the group
  pub counts : (p : ActionPlace) → IsPlace h p → has_started (records (h ▸ c)) (action_in (h ▸ c) p)
      ≡ (has_started (records h) (action_in (h ▸ c) p) || is_within p r x i)
  counts p u =
      let y : Rollout = u.rollout in
      let g : ℕ = group_at h p u in
      let both : is_group_started y p.rollout g (h ▸ c) ≡ (is_group_started y p.rollout g h || is_within p r x i) =
      go (is_group_started y p.rollout g h) (is_group_started y p.rollout g (h ▸ c)) refl refl in
      started_is (h ▸ c) (h ▸ c) p (later h c p u) ∙ both ∙ sym (ap (λ b. b || is_within p r x i) (started_is h (h ▸ c) p u))
    where
      itself : is_within p p.rollout u.rollout (group_at h p u) ≡ true
      itself = rw (eq-eqb p.rollout p.rollout refl, held u.rollout _ p.position (its_group h p u).within) refl

      same_rollout : p.rollout ≡ r → u.rollout ≡ x
      same_rollout e = same_some (sym u.there ∙ ap (rollout_at h) e ∙ d)

      same_group : u.rollout ≡ x → IsInGroup x i p.position → i ≡ group_at h p u
      same_group e k = one_group u.rollout _ i p.position u.sound (its_group h p u).first low (its_group h p u).within
          (subst (λ (y : Rollout). IsInGroup y i p.position) (sym e) k)

      go : (b b' : Bool) → is_group_started u.rollout p.rollout (group_at h p u) h ≡ b → is_group_started u.rollout p.rollout (group_at h p u) (h ▸ c) ≡ b'
          → b' ≡ (b || is_within p r x i)
      go true true e f = refl
      go true false e f = absurd (false≢true (sym f ∙ kept_started u.rollout p.rollout (group_at h p u) h c e))
      go false true e f =
          let one : (p.rollout ≡ r) × (group_at h p u ≡ i) = one_group_starts h c p.rollout (group_at h p u) r i u.rollout x v u.there d
          (record { before = e; now = f }) s in
          let by_rollout : is_within p r u.rollout (group_at h p u) ≡ true = subst (λ q. is_within p q u.rollout (group_at h p u) ≡ true) one.0 itself in
          let by_value : is_within p r x (group_at h p u) ≡ true = subst (λ (y : Rollout). is_within p r y (group_at h p u) ≡ true) (same_rollout one.0)
          by_rollout in
          sym (subst (λ k. is_within p r x k ≡ true) one.1 by_value)
      go false false e f = elim (cases_Bool (is_within p r x i)) [
        | inr not_so ↦ sym not_so
        | inl is ↦ absurd (never is)
      ]
        where
          never : is_within p r x i ≡ true → ⊥
          never is =
              let parts : (nat_eq p.rollout r ≡ true) × (holds_position p.position (bounds_in x i) ≡ true) = and_parts _ _ is in
              let same : p.rollout ≡ r = eqb-true _ _ parts.0 in
              let value : u.rollout ≡ x = same_rollout same in
              let group : i ≡ group_at h p u = same_group value (in_bounds x i p.position parts.1) in
              let now : is_group_started u.rollout p.rollout (group_at h p u) (h ▸ c) ≡ true =
              subst (λ k. is_group_started u.rollout p.rollout k (h ▸ c) ≡ true) group
              (subst (λ q. is_group_started u.rollout q i (h ▸ c) ≡ true) (sym same)
              (subst (λ (y : Rollout). is_group_started y r i (h ▸ c) ≡ true) (sym value) s.now)) in
              false≢true (sym f ∙ now)

-- where no group starts, an action counts as it did
pub counts_still : (h : CommandList) (c : Command) (p : ActionPlace) → IsPlace h p
    → ((r i : ℕ) (x : Rollout) → rollout_at h r ≡ Some x → StartsGroup x r i h c → ⊥) → has_started (records (h ▸ c)) (action_in (h ▸ c) p)
    ≡ has_started (records h) (action_in (h ▸ c) p)
counts_still h c p u none =
    started_is (h ▸ c) (h ▸ c) p (later h c p u)
    ∙ go (is_group_started u.rollout p.rollout (group_at h p u) h) (is_group_started u.rollout p.rollout (group_at h p u) (h ▸ c)) refl refl
    ∙ sym (started_is h (h ▸ c) p u)
  where
    go : (b b' : Bool) → is_group_started u.rollout p.rollout (group_at h p u) h ≡ b → is_group_started u.rollout p.rollout (group_at h p u) (h ▸ c) ≡ b'
        → b' ≡ b
    go true true e f = refl
    go true false e f = absurd (false≢true (sym f ∙ kept_started u.rollout p.rollout (group_at h p u) h c e))
    go false true e f = absurd (none p.rollout (group_at h p u) u.rollout u.there (record { before = e; now = f }))
    go false false e f = refl

-- ---- a command on an action

on_place : (h : CommandList) (c : Command) (p : ActionPlace) → is_on_action h c p.rollout p.position ≡ true → action_of h c ≡ Some p
on_place h c p e = grind arith

-- an action isn't the id's, or the command leaves it
pub own_or_same : (h : CommandList) (c : Command) (t : Bytes) (p : ActionPlace) → IsPlace h p
    → ((q : ActionPlace) (x : Rollout) → action_of h c ≡ Some q → rollout_at h q.rollout ≡ Some x → item_numbered x.members q.position ≢ Some t)
    → (is_for (records h) t (action_in (h ▸ c) p) ≡ false) ⊎ (action_in (h ▸ c) p ≡ action_in h p)
own_or_same h c t p w other = elim (cases_Bool (is_on_action h c p.rollout p.position)) [
  | inr off ↦ inr (off_action h c p off)
  | inl on ↦ inl (for_is h (h ▸ c) t p w ∙ not_its (some_item w.rollout.members p.position w.low w.high) (other p w.rollout (on_place h c p on) w.there))
]
  where
    not_its : (m : Bytes) × (item_numbered w.rollout.members p.position ≡ Some m) → item_numbered w.rollout.members p.position ≢ Some t
        → same_bytes (unwrap_or (item_numbered w.rollout.members p.position) []) t ≡ false
    not_its (m, e) ne = elim (cases_Bool (same_bytes m t)) [
      | inl is ↦ absurd (ne (e ∙ ap (λ (u : Bytes). Some u) (same_true m t is)))
      | inr not_so ↦ ap (λ o. same_bytes (unwrap_or o []) t) e ∙ not_so
    ]
