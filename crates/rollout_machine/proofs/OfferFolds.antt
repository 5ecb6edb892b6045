-- The list part: the first offer where more actions count is the lesser of two first offers, and so is what the rows of a group make of an offer.
use Rattle.rollout_machine.proofs.OfferCommon.{◌≡◌, ◌≤◌, ℕ, suc, Bool, true, false, cond, ◌&&◌, ◌||◌, List, [], ◌∷◌, refl, sym, ap, ◌∙◌, arith, Option, Some}
use Rattle.rollout_machine.proofs.OfferCommon.{None}
use Rattle.rollout_machine.proofs.OfferCommon.{nat_eq, is_none, slice_get, false≢true, Bytes, same_bytes, holds_position, TargetOffer}
use Rattle.rollout_machine.proofs.OfferCommon.{Offer, first_offer, Records, ActionRecord, is_for, has_started, Bounds, OffersById, lesser, member_of}
use Rattle.rollout_machine.proofs.OfferCommon.{offers_from}
use Rattle.rollout_machine.proofs.OfferCommon.{put_offer, put_offers}
use Rattle.std.proofs.Math.Bool.{or-true}

-- the offer, if there is one, is of action k or a later one
abbrev pub IsFrom : ℕ → Option Offer → Type 0
IsFrom k None = Unit {0}
IsFrom k (Some o) = k ≤ o.action

from_later : (k : ℕ) (o : Option Offer) → IsFrom (suc k) o → IsFrom k o
from_later k o e = grind arith

keeps_first : (o : Offer) (k : ℕ) (p : Option Offer) → o.action ≤ k → IsFrom k p → lesser (Some o) p ≡ Some o
keeps_first o k p l e = grind arith

takes_lower : (o : Option Offer) (p : Offer) → IsFrom (suc p.action) o → lesser o (Some p) ≡ Some p
takes_lower o p e = grind arith

pub none_last : (o : Option Offer) → lesser o None ≡ o
none_last o = grind arith

absorbs : (o : Option Offer) (p : Offer) (q : Option Offer) → IsFrom (suc p.action) q → lesser (lesser o (Some p)) q ≡ lesser o (Some p)
absorbs o p q e = grind arith

-- ---- what a group offers to one id

-- the first of the actions, numbered from k, that passes the test, as a deployment
abbrev pub first_in : (ActionRecord → Bool) → ℕ → List ActionRecord → Option Offer
first_in test k [] = None
first_in test k (a ∷ as') = let rest = first_in test (suc k) as' in cond (test a) (Some (record { action = k; canceling = false })) rest

abbrev pub in_group : Records → Bytes → ℕ → Bounds → ActionRecord → Bool
in_group rs t r b a = (nat_eq a.rollout r && holds_position a.position b) && same_bytes (member_of rs a) t

first_in_from : (test : ActionRecord → Bool) (k : ℕ) (as' : List ActionRecord) → IsFrom k (first_in test k as')
first_in_from test k [] = tt
first_in_from test k (a ∷ as') = go (test a) (from_later k _ (first_in_from test (suc k) as'))
  where
    go : (b : Bool) → IsFrom k (first_in test (suc k) as') → IsFrom k (cond b (Some (record { action = k; canceling = false })) (first_in test (suc k) as'))
    go true e = omega arith
    go false e = e

first_offer_from : (rs : Records) (t : Bytes) (k : ℕ) (as' : List ActionRecord) → IsFrom k (first_offer rs t k as')
first_offer_from rs t k [] = tt
first_offer_from rs t k (a ∷ as') = go (is_none a.outcome && (is_for rs t a && has_started rs a)) (from_later k _ (first_offer_from rs t (suc k) as'))
  where
    go : (b : Bool) → IsFrom k (first_offer rs t (suc k) as')
        → IsFrom k (cond b (Some (record { action = k; canceling = a.canceling })) (first_offer rs t (suc k) as'))
    go true e = omega arith
    go false e = e

-- rows go into the offers of each id by themselves
pub put_same : (f g : OffersById) (os : List TargetOffer) (t : Bytes) → f t ≡ g t → put_offers f os t ≡ put_offers g os t
put_same f g [] t e = e
put_same f g (o ∷ os) t e = put_same (put_offer f o) (put_offer g o) os t (rw e refl)

pub put_is : (rs : Records) (r : ℕ) (b : Bounds) (t : Bytes) (k : ℕ) (as' : List ActionRecord) (f : OffersById) → put_offers f (offers_from rs r b k as') t
    ≡ lesser (f t) (first_in (in_group rs t r b) k as')
put_is rs r b t k [] f = sym (none_last (f t))
put_is rs r b t k (a ∷ as') f = go (λ g. put_is rs r b t (suc k) as' g) (nat_eq a.rollout r && holds_position a.position b) (same_bytes (member_of rs a) t) refl
  where
    row : TargetOffer
    row = record { target = member_of rs a; offer = record { action = k; canceling = false } }

    go : ((g : OffersById) → put_offers g (offers_from rs r b (suc k) as') t ≡ lesser (g t) (first_in (in_group rs t r b) (suc k) as')) → (within mine : Bool)
        → same_bytes (member_of rs a) t ≡ mine
        → put_offers f (cond within (row ∷ offers_from rs r b (suc k) as') (offers_from rs r b (suc k) as')) t
        ≡ lesser (f t) (cond (within && mine) (Some (record { action = k; canceling = false })) (first_in (in_group rs t r b) (suc k) as'))
    go ih false mine d = ih f
    go ih true false d = ih (put_offer f row) ∙ rw d refl
    go ih true true d = ih (put_offer f row) ∙ rw d (absorbs (f t) (record { action = k; canceling = false }) _ (first_in_from (in_group rs t r b) (suc k) as'))

-- ---- more actions count

-- what holds of each action: it counts after where it did before or is in the group, and in the group it is open and no cancel
pub record Counts (rs rs' : Records) (t : Bytes) (test : ActionRecord → Bool) (a : ActionRecord) : Type 0 where
  pub device : is_for rs' t a ≡ is_for rs t a
  pub started : (has_started rs' a && is_for rs t a) ≡ ((has_started rs a && is_for rs t a) || test a)
  pub is_open : test a ≡ true → (is_none a.outcome ≡ true) × (a.canceling ≡ false)

pub joined : (rs rs' : Records) (t : Bytes) (test : ActionRecord → Bool) (k : ℕ) (as' : List ActionRecord)
    → ((i : ℕ) (a : ActionRecord) → slice_get as' i ≡ Some a → Counts rs rs' t test a)
    → first_offer rs' t k as' ≡ lesser (first_offer rs t k as') (first_in test k as')
joined rs rs' t test k [] each = refl
joined rs rs' t test k (a ∷ as') each =
    ap (λ d. cond (is_none a.outcome && (d && has_started rs' a)) (Some (record { action = k; canceling = a.canceling })) (first_offer rs' t (suc k) as'))
    w.device ∙ go (is_none a.outcome) (is_for rs t a) (has_started rs a) (has_started rs' a) (test a) w.started w.is_open
    (joined rs rs' t test (suc k) as' (λ i b e. each (suc i) b e))
  where
    w : Counts rs rs' t test a
    w = each 0 a refl

    go : (o d s s' q : Bool) → (s' && d) ≡ ((s && d) || q) → (q ≡ true → (o ≡ true) × (a.canceling ≡ false)) → first_offer rs' t (suc k) as'
        ≡ lesser (first_offer rs t (suc k) as') (first_in test (suc k) as')
        → cond (o && (d && s')) (Some (record { action = k; canceling = a.canceling })) (first_offer rs' t (suc k) as')
        ≡ lesser (cond (o && (d && s)) (Some (record { action = k; canceling = a.canceling })) (first_offer rs t (suc k) as'))
        (cond q (Some (record { action = k; canceling = false })) (first_in test (suc k) as'))
    go o d s s' true e f ih = both o d s s' e (f refl)
      where
        here : Option Offer
        here = Some (record { action = k; canceling = a.canceling })

        both : (o d s s' : Bool) → (s' && d) ≡ ((s && d) || true) → (o ≡ true) × (a.canceling ≡ false)
            → cond (o && (d && s')) (Some (record { action = k; canceling = a.canceling })) (first_offer rs' t (suc k) as')
            ≡ lesser (cond (o && (d && s)) (Some (record { action = k; canceling = a.canceling })) (first_offer rs t (suc k) as'))
            (Some (record { action = k; canceling = false }))
        both false d s s' e f = absurd (false≢true f.0)
        both true false s false e f = absurd (false≢true (e ∙ or-true (s && false)))
        both true false s true e f = absurd (false≢true (e ∙ or-true (s && false)))
        both true true s false e f = absurd (false≢true (e ∙ or-true (s && true)))
        both true true true true e f =
            sym (keeps_first (record { action = k; canceling = a.canceling }) k (Some (record { action = k; canceling = false })) (omega arith) (omega arith))
        both true true false true e f = ap (λ b. Some (record { action = k; canceling = b })) f.1
            ∙ sym (takes_lower _ (record { action = k; canceling = false }) (first_offer_from rs t (suc k) as'))
    go o d s s' false e f ih = only o d s s' e
      where
        only : (o d s s' : Bool) → (s' && d) ≡ ((s && d) || false)
            → cond (o && (d && s')) (Some (record { action = k; canceling = a.canceling })) (first_offer rs' t (suc k) as')
            ≡ lesser (cond (o && (d && s)) (Some (record { action = k; canceling = a.canceling })) (first_offer rs t (suc k) as')) (first_in test (suc k) as')
        only false d s s' e = ih
        only true false s s' e = ih
        only true true false false e = ih
        only true true true true e =
            sym (keeps_first (record { action = k; canceling = a.canceling }) k (first_in test (suc k) as') (omega arith)
            (from_later k _ (first_in_from test (suc k) as')))
        only true true true false e = absurd (false≢true e)
        only true true false true e = absurd (false≢true (sym e))
