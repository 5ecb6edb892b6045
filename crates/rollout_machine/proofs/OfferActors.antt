-- Offers by the id that a command names.
use native.Mathlib.Omega.{arith}
use Rattle.rollout_machine.proofs.OfferCommon.{◌≡◌, ◌≢◌, ℕ, suc, Bool, true, false, cond, ◌&&◌, List, [], ◌∷◌, refl, sym, ap, subst, ◌∙◌, Option, Some, None}
use Rattle.rollout_machine.proofs.OfferCommon.{nat_eq}
use Rattle.rollout_machine.proofs.OfferCommon.{slice_get, unwrap_or, or_parts, false≢true, not-false, ActionPlace, action_place, item_numbered, same_bytes}
use Rattle.rollout_machine.proofs.OfferCommon.{CommandList, ◌▸◌, Bytes, Command, Cancel, Feedback, CancelFeedback, holds_position, TargetOffer, offer, Records}
use Rattle.rollout_machine.proofs.OfferCommon.{action_in, Rollout, bounds_in, rollout_at, is_for, member_at, IsValid, Bounds, ActionRecord, invariant_of}
use Rattle.rollout_machine.proofs.OfferCommon.{same_refl, same_true, IsPlace, NoneHolds, found_action, none_holds, rollout_numbered, GroupOffersStay, IsOnOther}
use Rattle.rollout_machine.proofs.OfferCommon.{OffersAfterNone, OffersAfterStart, OffersOfActor, acted, actor, group_offers, member_of, offers_from, put_offers}
use Rattle.rollout_machine.proofs.OfferCommon.{offers_before_start, with_actor}
use Rattle.rollout_machine.specs.Records.{records}
use Rattle.rollout_machine.specs.Verdicts.{is_device_action, verdict_row}
use Rattle.rollout_machine.proofs.Offers.{member_is as own_member}
use Rattle.rollout_machine.proofs.OfferFolds.{put_same}
use Rattle.rollout_machine.proofs.OfferLaws.{offer_of_others, offers_of_no_start, offers_of_start}
use Rattle.rollout_machine.proofs.OfferPlaces.{IsAt, found, later, placed}
use Rattle.rollout_machine.specs.Ranges.{is_some_and}

-- ---- the rows of a group

member_is : (h h' : CommandList) (p : ActionPlace) (w : IsPlace h p) → member_of (records h) (action_in h' p)
    ≡ unwrap_or (item_numbered w.rollout.members p.position) []
unfolding records
member_is h h' p w = ap (λ o. member_at o p.position) (rollout_numbered h p.rollout w.rollout w.there)

same_rows : (rs rs' : Records) (r : ℕ) (b : Bounds) (k : ℕ) (as' : List ActionRecord)
    → ((i : ℕ) (a : ActionRecord) → slice_get as' i ≡ Some a → member_of rs' a ≡ member_of rs a) → offers_from rs' r b k as' ≡ offers_from rs r b k as'
same_rows rs rs' r b k [] each = refl
same_rows rs rs' r b k (a ∷ as') each =
    ap (λ (id : Bytes). cond (nat_eq a.rollout r && holds_position a.position b)
    (record { target = id; offer = record { action = k; canceling = false } } ∷ offers_from rs' r b (suc k) as') (offers_from rs' r b (suc k) as'))
    (each 0 a refl)
    ∙ ap (λ (os : List TargetOffer). cond (nat_eq a.rollout r && holds_position a.position b)
    (record { target = member_of rs a; offer = record { action = k; canceling = false } } ∷ os) os)
    (same_rows rs rs' r b (suc k) as' (λ i c e. each (suc i) c e))

pub group_offers_stay : GroupOffersStay
group_offers_stay h c r b v = same_rows (acted h c) (records (h ▸ c)) r b 1 (records (h ▸ c)).actions (λ i a e. each i a (found (h ▸ c) i a e))
  where
    at_place : (p : ActionPlace) → IsPlace h p → member_of (records (h ▸ c)) (action_in (h ▸ c) p) ≡ member_of (acted h c) (action_in (h ▸ c) p)
    at_place p w = member_is (h ▸ c) (h ▸ c) p (later h c p w) ∙ sym (member_is h (h ▸ c) p w)

    each : (i : ℕ) (a : ActionRecord) → IsAt (h ▸ c) i a → member_of (records (h ▸ c)) a ≡ member_of (acted h c) a
    each i a w = subst (λ (a : ActionRecord). member_of (records (h ▸ c)) a ≡ member_of (acted h c) a) w.same
        (at_place w.place (placed h c i w.place v w.there))

-- ---- the actor

on_own : (h : CommandList) (u : Bytes) (p : ActionPlace) → IsPlace h p → is_for (records h) u (action_in h p) ≡ true → (t : Bytes) → u ≢ t → (x : Rollout)
    → rollout_at h p.rollout ≡ Some x → item_numbered x.members p.position ≢ Some t
on_own h u p w mine t apart x there its =
    let both : Some w.rollout ≡ Some x = sym w.there ∙ there in
    let same : w.rollout ≡ x = cc in
    let names : Some u ≡ Some t = sym (own_member h u p w mine) ∙ ap (λ (y : Rollout). item_numbered y.members p.position) same ∙ its in
    let ids : u ≡ t = cc in
    apart ids

device_one : (h : CommandList) (u : Bytes) (k : ℕ) (p : ActionPlace) → action_place h k ≡ Some p
    → is_device_action (records h) u (item_numbered (records h).actions k) ≡ true → is_for (records h) u (action_in h p) ≡ true
device_one h u k p at e = grind (arith, found_action)

on_one : (h : CommandList) (u : Bytes) (k : ℕ) (p : ActionPlace) → action_place h k ≡ Some p
    → is_some_and (is_for (records h) u) (item_numbered (records h).actions k) ≡ true → is_for (records h) u (action_in h p) ≡ true
on_one h u k p at e = sym (ap (is_some_and (is_for (records h) u)) (found_action h k (Some p) at)) ∙ e

-- the command is on no action of any other id
pub is_on_other : (h : CommandList) (c : Command) (t : Bytes) → IsValid (h ▸ c) → actor c ≢ Some t → IsOnOther h c t
is_on_other h (Cancel u k force) t v apart p x at there =
    let row : NoneHolds (verdict_row (records h) (Cancel u k force)) = none_holds (verdict_row (records h) (Cancel u k force)) v.2 in
    let mine : is_some_and (is_for (records h) u) (item_numbered (records h).actions k) ≡ true = not-false _ (or_parts _ _ row.0).1 in
    on_own h u p ((invariant_of h v.0).placed k p at) (on_one h u k p at mine) t (λ e. apart (ap (λ (i : Bytes). Some i) e)) x there
is_on_other h (Feedback feedback) t v apart p x at there =
    let device : is_device_action (records h) feedback.credential.id (item_numbered (records h).actions feedback.action) ≡ true =
    not-false _ (none_holds (verdict_row (records h) (Feedback feedback)) v.2).1.0 in
    on_own h feedback.credential.id p ((invariant_of h v.0).placed feedback.action p at) (device_one h feedback.credential.id feedback.action p at device) t
    (λ e. apart (ap (λ (i : Bytes). Some i) e)) x there
is_on_other h (CancelFeedback feedback) t v apart p x at there =
    let device : is_device_action (records h) feedback.credential.id (item_numbered (records h).actions feedback.action) ≡ true =
    not-false _ (none_holds (verdict_row (records h) (CancelFeedback feedback)) v.2).1.0 in
    on_own h feedback.credential.id p ((invariant_of h v.0).placed feedback.action p at) (device_one h feedback.credential.id feedback.action p at device) t
    (λ e. apart (ap (λ (i : Bytes). Some i) e)) x there
is_on_other h _ t v apart p x at there = cc

no_one : {t : Bytes} → None ≢ Some t
no_one e = cc

someone : (u t : Bytes) → u ≢ t → Some u ≢ Some t
someone u t apart e = let same : u ≡ t = cc in apart same

pub offers_of_actor : OffersOfActor
offers_of_actor h c t v = go (actor c) refl
  where
    by : (u : Bytes) → actor c ≡ Some u → (b : Bool) → same_bytes u t ≡ b → offer (acted h c) t ≡ cond b (offer (acted h c) u) (offer (records h) t)
    by u e true d = ap (offer (acted h c)) (sym (same_true u t d))
    by u e false d = offer_of_others h c t v
        (is_on_other h c t v (λ k. someone u t (λ same. false≢true (sym d ∙ ap (same_bytes u) (sym same) ∙ same_refl u)) (sym e ∙ k)))

    go : (o : Option Bytes) → actor c ≡ o → offer (acted h c) t ≡ offers_before_start h c t
    go None e = offer_of_others h c t v (is_on_other h c t v (λ k. no_one (sym e ∙ k)))
        ∙ ap (λ (o : Option Bytes). with_actor o (offer (records h)) (offer (acted h c)) t) (sym e)
    go (Some u) e = by u e (same_bytes u t) refl ∙ ap (λ (o : Option Bytes). with_actor o (offer (records h)) (offer (acted h c)) t) (sym e)

pub offers_after_start : OffersAfterStart
offers_after_start h c r i x t v d s =
    offers_of_start h c r i x t v d s
    ∙ put_same (offer (acted h c)) (offers_before_start h c) (group_offers (acted h c) r (bounds_in x i)) t (offers_of_actor h c t v)
    ∙ ap (λ (os : List TargetOffer). put_offers (offers_before_start h c) os t) (sym (group_offers_stay h c r (bounds_in x i) v))

pub offers_after_none : OffersAfterNone
offers_after_none h c t v none = offers_of_no_start h c t v none ∙ offers_of_actor h c t v
