-- The offers of targets that a command doesn't touch stay.
use Rattle.rollout_machine.proofs.Common.{◌≡◌, ◌⊎◌, ℕ, Bool, true, false, ◌&&◌, Option, Some, None, inl, inr, refl, sym, ap, ◌∙◌, slice_get, nat_eq}
use Rattle.rollout_machine.proofs.Common.{ActionPlace, action_place, action_places, action_of, is_on_action, is_action_place, is_canceling, new_places}
use Rattle.rollout_machine.proofs.Common.{outcome, cancel_stands, item_numbered, CommandList, ◌▸◌, Bytes, Command, Outcome, IsOfferable, IsLeastOffer, Offer}
use Rattle.rollout_machine.proofs.Common.{offer, is_group_started, records, Rollout, rollout_at, IsValid, and_parts, cases_Bool, cases_order, eqb-true}
use Rattle.rollout_machine.specs.Promises.{IsUntouched, OffersStay}
use Rattle.rollout_machine.proofs.Distinct.{new_at}
use Rattle.rollout_machine.proofs.Induction.{invariant_of, stays_numbered, either_numbered, never_started}
use Rattle.rollout_machine.proofs.Offers.{offer_is_least}
use Rattle.rollout_machine.proofs.Recounts.{stays_there, new_rollout_there}
use Rattle.rollout_machine.proofs.Starts.{kept_started}
use Rattle.rollout_machine.proofs.Tallies.{untouched, closed_stays}
use Rattle.rollout_machine.proofs.Valid.{IsPlace}

-- the command is not on an action of an untouched target
off : (h : CommandList) (c : Command) (t : Bytes) (k : ℕ) (p : ActionPlace) → IsUntouched h c t → (x : Rollout) → rollout_at h p.rollout ≡ Some x
    → item_numbered x.members p.position ≡ Some t → is_on_action h c p.rollout p.position ≡ false
off h c t k p u x there member = go (action_of h c) refl where
  place : (q : ActionPlace) → q.rollout ≡ p.rollout → q.position ≡ p.position → q ≡ p
  place q e d = rw (e, d) refl

  on_it : (q : ActionPlace) → action_of h c ≡ Some q → (b : Bool) → (nat_eq q.rollout p.rollout && nat_eq q.position p.position) ≡ b → b ≡ false
  on_it q e false d = refl
  on_it q e true d =
      let parts : (nat_eq q.rollout p.rollout ≡ true) × (nat_eq q.position p.position ≡ true) = and_parts _ _ d in
      let same : q ≡ p = place q (eqb-true _ _ parts.0) (eqb-true _ _ parts.1) in
      absurd (u.own p x (e ∙ ap Some same) there member)

  go : (o : Option ActionPlace) → action_of h c ≡ o → is_action_place o p.rollout p.position ≡ false
  go None e = refl
  go (Some q) e = on_it q e _ refl

-- ---- offerable before and after

forth : (h : CommandList) (c : Command) (t : Bytes) (k : ℕ) (p : ActionPlace) → IsUntouched h c t → IsOfferable h t k p → IsOfferable (h ▸ c) t k p
forth h c t k p u w = record {
  numbered = stays_numbered (action_places h) (new_places h c) k p w.numbered;
  rollout = w.rollout;
  there = stays_there h c p.rollout w.rollout w.there;
  member = w.member;
  group = w.group;
  first = w.first;
  within = w.within;
  started = kept_started w.rollout p.rollout w.group h c w.started;
  is_open = untouched h c p.rollout p.position (off h c t k p u w.rollout w.there w.member) ∙ w.is_open;
}

back : (h : CommandList) (c : Command) (t : Bytes) (k : ℕ) (p : ActionPlace) → IsValid (h ▸ c) → IsUntouched h c t → IsOfferable (h ▸ c) t k p
    → IsOfferable h t k p
back h c t k p v u w = go (either_numbered (action_places h) (new_places h c) k p w.numbered) where
  started_before : (x : Rollout) → rollout_at h p.rollout ≡ Some x → x ≡ w.rollout → is_group_started w.rollout p.rollout w.group h ≡ true
  started_before x d same = elim (cases_Bool (is_group_started w.rollout p.rollout w.group h)) [
    | inl e ↦ e
    | inr e ↦ absurd (u.starting p.rollout w.group p.position w.rollout (d ∙ ap Some same) (record { before = e; now = w.started }) w.first w.within w.member)
  ]

  same_rollout : (x : Rollout) → rollout_at h p.rollout ≡ Some x → x ≡ w.rollout
  same_rollout x d = let both : Some x ≡ Some w.rollout = sym (stays_there h c p.rollout x d) ∙ w.there in cc

  open_before : (o : Option Outcome) → outcome h p.rollout p.position ≡ o → outcome h p.rollout p.position ≡ None
  open_before None e = e
  open_before (Some o) e = let later : Some o ≡ None = sym (closed_stays h c p.rollout p.position o e) ∙ w.is_open in cc

  go : (item_numbered (action_places h) k ≡ Some p) ⊎ ((item_numbered (action_places h) k ≡ None) × ((j : ℕ) × (slice_get (new_places h c) j ≡ Some p)))
      → IsOfferable h t k p
  go (inl at) =
      let place : IsPlace h p = (invariant_of h v.0).placed k p at in
      let same : place.rollout ≡ w.rollout = same_rollout place.rollout place.there in
      record {
        numbered = at;
        rollout = w.rollout;
        there = place.there ∙ ap Some same;
        member = w.member;
        group = w.group;
        first = w.first;
        within = w.within;
        started = started_before place.rollout place.there same;
        is_open = open_before (outcome h p.rollout p.position) refl;
      }
  go (inr new) =
      let (x, d) = new_rollout_there h c new.1.0 p v.2 new.1.1 in
      let fresh : is_group_started w.rollout p.rollout w.group h ≡ false = never_started w.rollout p.rollout w.group h (new_at h c new.1.0 p v.2 new.1.1).0 in
      absurd (u.starting p.rollout w.group p.position w.rollout (d ∙ ap Some (same_rollout x d)) (record { before = fresh; now = w.started }) w.first w.within
      w.member)

-- ---- canceling

stands_still : (h : CommandList) (c : Command) (r j : ℕ) → is_on_action h c r j ≡ false → cancel_stands (h ▸ c) r j ≡ cancel_stands h r j
stands_still h c r j e = rw e refl

cancels_still : (h : CommandList) (c : Command) (r j : ℕ) → is_on_action h c r j ≡ false → is_canceling (h ▸ c) r j ≡ is_canceling h r j
cancels_still h c r j e = rw (untouched h c r j e, stands_still h c r j e) refl

pub offers_stay : OffersStay
offers_stay h c t v u = go (offer (records h) t) (offer (records (h ▸ c)) t) refl refl where
  same_offer : (a b : Offer) → a.action ≡ b.action → a.canceling ≡ b.canceling → a ≡ b
  same_offer a b e d = rw (e, d) refl

  go : (a b : Option Offer) → offer (records h) t ≡ a → offer (records (h ▸ c)) t ≡ b → b ≡ a
  go None None e d = refl
  go (Some a) None e d = let w : IsLeastOffer h t a = (offer_is_least h t v.0).0 a e in
      absurd ((offer_is_least (h ▸ c) t v).1 d a.action w.place (forth h c t a.action w.place u w.offerable))
  go None (Some b) e d = let w : IsLeastOffer (h ▸ c) t b = (offer_is_least (h ▸ c) t v).0 b d in
      absurd ((offer_is_least h t v.0).1 e b.action w.place (back h c t b.action w.place v u w.offerable))
  go (Some a) (Some b) e d =
      let w : IsLeastOffer h t a = (offer_is_least h t v.0).0 a e in
      let z : IsLeastOffer (h ▸ c) t b = (offer_is_least (h ▸ c) t v).0 b d in
      elim (cases_order a.action b.action) [
        | inl same ↦ both w z same
        | inr (inl less) ↦ absurd (z.least a.action w.place less (forth h c t a.action w.place u w.offerable))
        | inr (inr more) ↦ absurd (w.least b.action z.place more (back h c t b.action z.place v u z.offerable))
      ]
    where
      both : IsLeastOffer h t a → IsLeastOffer (h ▸ c) t b → a.action ≡ b.action → Some b ≡ Some a
      both w z same =
          let here : IsOfferable (h ▸ c) t a.action w.place = forth h c t a.action w.place u w.offerable in
          let places : Some w.place ≡ Some z.place = sym here.numbered ∙ ap (action_place (h ▸ c)) same ∙ z.offerable.numbered in
          let place : w.place ≡ z.place = cc in
          let still : is_canceling (h ▸ c) w.place.rollout w.place.position ≡ is_canceling h w.place.rollout w.place.position =
          cancels_still h c w.place.rollout w.place.position (off h c t a.action w.place u w.offerable.rollout w.offerable.there w.offerable.member) in
          let kinds : b.canceling ≡ a.canceling = z.kind ∙ ap (λ (p : ActionPlace). is_canceling (h ▸ c) p.rollout p.position) (sym place) ∙ still
          ∙ sym w.kind in
          ap Some (same_offer b a (sym same) kinds)
