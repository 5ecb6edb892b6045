-- What a command does to the offers.
use Rattle.rollout_machine.proofs.OfferCommon.{◌≡◌, ◌⊎◌, inl, inr, ℕ, suc, Bool, true, false, cond, ◌&&◌, ◌||◌, List, [], ◌∷◌, ◌++◌, ◌+◌, length, arith, map}
use Rattle.rollout_machine.proofs.OfferCommon.{refl, sym}
use Rattle.rollout_machine.proofs.OfferCommon.{ap, subst, ◌∙◌, Option, Some, None, is_none, slice_get, and_parts, false≢true, ActionPlace, action_places}
use Rattle.rollout_machine.proofs.OfferCommon.{cancel_stands}
use Rattle.rollout_machine.proofs.OfferCommon.{new_places, outcome, same_bytes, CommandList, ◌▸◌, Bytes, Command, Offer, first_offer, offer, Records, action_in}
use Rattle.rollout_machine.proofs.OfferCommon.{bounds_in, has_started, is_for, ActionRecord, invariant_of, never_started, same_refl, same_true, IsPlace}
use Rattle.rollout_machine.proofs.OfferCommon.{OfferOfOthers}
use Rattle.rollout_machine.proofs.OfferCommon.{OffersOfNoStart, OffersOfStart, OffersStep, acted, group_offers, lesser, with_offer_at, or-false, and-false}
use Rattle.rollout_machine.specs.declared.outcome.Outcome.{Outcome}
use Rattle.rollout_machine.specs.Records.{records}
use Rattle.rollout_machine.proofs.Distinct.{new_at}
use Rattle.rollout_machine.proofs.OfferFolds.{Counts, first_in, in_group, joined, none_last, put_is, put_same}
use Rattle.rollout_machine.proofs.OfferPlaces.{IsAt, counts, counts_still, for_is, found, fresh, group_at, later, own_or_same, placed, started_is}

-- an action is of the same device before and after
device_is : (h : CommandList) (c : Command) (t : Bytes) (p : ActionPlace) → IsPlace h p → is_for (records (h ▸ c)) t (action_in (h ▸ c) p)
    ≡ is_for (records h) t (action_in (h ▸ c) p)
device_is h c t p w = for_is (h ▸ c) (h ▸ c) t p (later h c p w) ∙ sym (for_is h (h ▸ c) t p w)

with_device : (s' s q d : Bool) → s' ≡ (s || q) → (s' && d) ≡ ((s && d) || (q && d))
with_device s' s q d e = grind arith

not_canceling : (b : Bool) (o : Option Outcome) → b ≡ false → (is_none o && b) ≡ false
not_canceling b o e = grind arith

pub offers_of_start : OffersOfStart
offers_of_start h c r i x t v d s =
    joined (acted h c) (records (h ▸ c)) t test 1 (records (h ▸ c)).actions (λ n a e. each n a (found (h ▸ c) n a e))
    ∙ sym (put_is (acted h c) r (bounds_in x i) t 1 (records (h ▸ c)).actions (offer (acted h c)))
  where
    test : ActionRecord → Bool
    test a = in_group (acted h c) t r (bounds_in x i) a

    at_place : (p : ActionPlace) → IsPlace h p → Counts (acted h c) (records (h ▸ c)) t (in_group (acted h c) t r (bounds_in x i)) (action_in (h ▸ c) p)
    at_place p w = record {
      device = device_is h c t p w;
      started = with_device _ _ _ _ (counts h c r i x v d s p w);
      is_open = λ e. (let f : (outcome (h ▸ c) p.rollout p.position ≡ None) × (cancel_stands (h ▸ c) p.rollout p.position ≡ false) =
          fresh h c r i x v d s p (and_parts _ _ e).0 in
          (ap (λ (o : Option Outcome). is_none o) f.0, not_canceling _ (outcome (h ▸ c) p.rollout p.position) f.1));
    }

    each : (n : ℕ) (a : ActionRecord) → IsAt (h ▸ c) n a → Counts (acted h c) (records (h ▸ c)) t (in_group (acted h c) t r (bounds_in x i)) a
    each n a w = subst (λ (b : ActionRecord). Counts (acted h c) (records (h ▸ c)) t (in_group (acted h c) t r (bounds_in x i)) b) w.same
        (at_place w.place (placed h c n w.place v w.there))

none_in : (k : ℕ) (as' : List ActionRecord) → first_in (λ a. false) k as' ≡ None
none_in k [] = refl
none_in k (a ∷ as') = none_in (suc k) as'

pub offers_of_no_start : OffersOfNoStart
offers_of_no_start h c t v none =
    joined (acted h c) (records (h ▸ c)) t (λ a. false) 1 (records (h ▸ c)).actions (λ n a e. each n a (found (h ▸ c) n a e))
    ∙ ap (λ (o : Option Offer). lesser_of o) (none_in 1 (records (h ▸ c)).actions) ∙ none_last (offer (acted h c) t)
  where
    lesser_of : Option Offer → Option Offer
    lesser_of o = lesser (offer (acted h c) t) o

    at_place : (p : ActionPlace) → IsPlace h p → Counts (acted h c) (records (h ▸ c)) t (λ a. false) (action_in (h ▸ c) p)
    at_place p w = record {
      device = device_is h c t p w;
      started = ap (λ b. b && is_for (records h) t (action_in (h ▸ c) p)) (counts_still h c p w none) ∙ sym (or-false _);
      is_open = λ e. absurd (false≢true e);
    }

    each : (n : ℕ) (a : ActionRecord) → IsAt (h ▸ c) n a → Counts (acted h c) (records (h ▸ c)) t (λ a. false) a
    each n a w = subst (λ (b : ActionRecord). Counts (acted h c) (records (h ▸ c)) t (λ a. false) b) w.same (at_place w.place (placed h c n w.place v w.there))

-- ---- the offers of others

get_behind : {X : Type 0} (xs ys : List X) (j : ℕ) (y : X) → slice_get ys j ≡ Some y → slice_get (xs ++ ys) (length xs + j) ≡ Some y
get_behind [] ys j y e = let z : 0 + j ≡ j = omega arith in rw z e
get_behind (x ∷ xs) ys j y e = let z : suc (length xs) + j ≡ suc (length xs + j) = omega arith in rw z (get_behind xs ys j y e)

module _ (rs : Records) (t : Bytes) (f f' : ActionPlace → ActionRecord) where
  none_new : (k : ℕ) (qs : List ActionPlace) → ((i : ℕ) (q : ActionPlace) → slice_get qs i ≡ Some q → has_started rs (f' q) ≡ false)
      → first_offer rs t k (map f' qs) ≡ None
  none_new k [] each = refl
  none_new k (q ∷ qs) each = rw (each 0 q refl) (rw (never (is_none (f' q).outcome) (is_for rs t (f' q))) (none_new (suc k) qs (λ i p e. each (suc i) p e)))
    where
      never : (a b : Bool) → (a && (b && false)) ≡ false
      never true true = refl
      never true false = refl
      never false b = refl

  all_same : (k : ℕ) (ps qs : List ActionPlace) → ((p : ActionPlace) → is_for rs t (f' p) ≡ is_for rs t (f p))
      → ((i : ℕ) (p : ActionPlace) → slice_get ps i ≡ Some p → (is_for rs t (f' p) ≡ false) ⊎ (f' p ≡ f p))
      → ((i : ℕ) (q : ActionPlace) → slice_get qs i ≡ Some q → has_started rs (f' q) ≡ false) → first_offer rs t k (map f' (ps ++ qs))
      ≡ first_offer rs t k (map f ps)
  all_same k [] qs device each new = none_new k qs new
  all_same k (p ∷ ps) qs device each new = go (all_same (suc k) ps qs device (λ i q e. each (suc i) q e) new) (each 0 p refl)
    where
      skip : (a : ActionRecord) (o : Option Offer) → is_for rs t a ≡ false → cond (is_none a.outcome && (is_for rs t a && has_started rs a))
          (Some (record { action = k; canceling = a.canceling })) o ≡ o
      skip a o e = rw e (rw (and-false (is_none a.outcome)) refl)

      go : first_offer rs t (suc k) (map f' (ps ++ qs)) ≡ first_offer rs t (suc k) (map f ps) → (is_for rs t (f' p) ≡ false) ⊎ (f' p ≡ f p)
          → first_offer rs t k (map f' ((p ∷ ps) ++ qs)) ≡ first_offer rs t k (map f (p ∷ ps))
      go ih (inl e) = skip (f' p) _ e ∙ ih ∙ sym (skip (f p) _ (sym (device p) ∙ e))
      go ih (inr e) =
          ap (λ (a : ActionRecord). cond (is_none a.outcome && (is_for rs t a && has_started rs a)) (Some (record { action = k; canceling = a.canceling }))
          (first_offer rs t (suc k) (map f' (ps ++ qs)))) e
          ∙ ap (λ o. cond (is_none (f p).outcome && (is_for rs t (f p) && has_started rs (f p))) (Some (record { action = k; canceling = (f p).canceling })) o)
          ih

pub offer_of_others : OfferOfOthers
unfolding records
offer_of_others h c t v other =
    all_same (records h) t (action_in h) (action_in (h ▸ c)) 1 (action_places h) (new_places h c) (λ p. refl)
    (λ i p e. own_or_same h c t p ((invariant_of h v.0).placed (suc i) p e) other)
    (λ j q e. started_is h (h ▸ c) q (new_place j q e) ∙ never_started (new_place j q e).rollout q.rollout (group_at h q (new_place j q e)) h
    (new_at h c j q v.2 e).0)
  where
    new_place : (j : ℕ) (q : ActionPlace) → slice_get (new_places h c) j ≡ Some q → IsPlace h q
    new_place j q e = placed h c _ q v (get_behind (action_places h) (new_places h c) j q e)

-- ---- both steps

pub offers_step : OffersStep
offers_step h c u r i x t v others d s =
    offers_of_start h c r i x t v d s ∙ put_same (offer (acted h c)) (with_offer_at (offer (records h)) u (offer (acted h c) u))
    (group_offers (acted h c) r (bounds_in x i)) t (go (same_bytes u t) refl)
  where
    go : (b : Bool) → same_bytes u t ≡ b → offer (acted h c) t ≡ cond b (offer (acted h c) u) (offer (records h) t)
    go true e = ap (offer (acted h c)) (sym (same_true u t e))
    go false e = offer_of_others h c t v (others t (λ same. false≢true (sym e ∙ ap (same_bytes u) (sym same) ∙ same_refl u)))
