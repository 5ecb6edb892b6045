-- What can be offered after a command, from what could be before it.
use Rattle.rollout_machine.proofs.Common.{◌≡◌, ◌⊎◌, ℕ, false, Option, Some, None, inl, inr, refl, sym, ◌∙◌, slice_get, ActionPlace, action_places, new_places}
use Rattle.rollout_machine.proofs.Common.{outcome, item_numbered, CommandList, ◌▸◌, Bytes, Command, Outcome, IsOfferable, is_group_started, Rollout}
use Rattle.rollout_machine.proofs.Common.{rollout_at, IsValid, cases_Bool}
use Rattle.rollout_machine.specs.Promises.{BecomesOfferable, OffersFollow, StaysOfferable}
use Rattle.rollout_machine.proofs.Distinct.{new_at}
use Rattle.rollout_machine.proofs.Induction.{accepted, either_numbered, invariant_of, never_started, stays_numbered}
use Rattle.rollout_machine.proofs.Recounts.{new_rollout_there, stays_there}
use Rattle.rollout_machine.proofs.Starts.{kept_started}
use Rattle.rollout_machine.proofs.Tallies.{closed_stays, still_open}
use Rattle.rollout_machine.proofs.Valid.{IsPlace}
use Rattle.rollout_machine.proofs.Whole.{IsAccepted}

open_before : (h : CommandList) (c : Command) (p : ActionPlace) → outcome (h ▸ c) p.rollout p.position ≡ None → outcome h p.rollout p.position ≡ None
open_before h c p open' = go (outcome h p.rollout p.position) refl where
  go : (o : Option Outcome) → outcome h p.rollout p.position ≡ o → outcome h p.rollout p.position ≡ None
  go None e = e
  go (Some o) e = let later : Some o ≡ None = sym (closed_stays h c p.rollout p.position o e) ∙ open' in cc

-- a group that is started after the command was before it, or starts in it
to : (h : CommandList) (c : Command) (t : Bytes) (k : ℕ) (p : ActionPlace) → IsValid (h ▸ c) → IsOfferable (h ▸ c) t k p → StaysOfferable h c t k p
    ⊎ BecomesOfferable h c t k p
to h c t k p v w = go (either_numbered (action_places h) (new_places h c) k p w.numbered) where
  same_rollout : (x : Rollout) → rollout_at h p.rollout ≡ Some x → rollout_at h p.rollout ≡ Some w.rollout
  same_rollout x d = d ∙ sym (stays_there h c p.rollout x d) ∙ w.there

  becomes : rollout_at h p.rollout ≡ Some w.rollout → is_group_started w.rollout p.rollout w.group h ≡ false → BecomesOfferable h c t k p
  becomes d e = record {
    numbered = w.numbered;
    rollout = w.rollout;
    there = d;
    member = w.member;
    group = w.group;
    first = w.first;
    within = w.within;
    starts =
        record { before = e; now = w.started };
  }

  go : (item_numbered (action_places h) k ≡ Some p) ⊎ ((item_numbered (action_places h) k ≡ None) × ((j : ℕ) × (slice_get (new_places h c) j ≡ Some p)))
      → StaysOfferable h c t k p ⊎ BecomesOfferable h c t k p
  go (inl at) =
      let place : IsPlace h p = (invariant_of h v.0).placed k p at in
      let d : rollout_at h p.rollout ≡ Some w.rollout = same_rollout place.rollout place.there in
      elim (cases_Bool (is_group_started w.rollout p.rollout w.group h)) [
        | inl e ↦ inl (record {
          offerable = record {
            numbered = at;
            rollout = w.rollout;
            there = d;
            member = w.member;
            group = w.group;
            first = w.first;
            within = w.within;
            started =
                e;
            is_open = open_before h c p w.is_open;
          };
          is_open = w.is_open;
        })
        | inr e ↦ inr (becomes d e)
      ]
  go (inr new) =
      let (x, d) = new_rollout_there h c new.1.0 p v.2 new.1.1 in
      inr (becomes (same_rollout x d) (never_started w.rollout p.rollout w.group h (new_at h c new.1.0 p v.2 new.1.1).0))

from : (h : CommandList) (c : Command) (t : Bytes) (k : ℕ) (p : ActionPlace) → IsValid (h ▸ c) → StaysOfferable h c t k p ⊎ BecomesOfferable h c t k p
    → IsOfferable (h ▸ c) t k p
from h c t k p v (inl s) = let w : IsOfferable h t k p = s.offerable in record {
  numbered = stays_numbered (action_places h) (new_places h c) k p w.numbered;
  rollout = w.rollout;
  there = stays_there h c p.rollout w.rollout w.there;
  member = w.member;
  group = w.group;
  first = w.first;
  within = w.within;
  started = kept_started w.rollout p.rollout w.group h c w.started;
  is_open = s.is_open;
}
from h c t k p v (inr b) = let w : IsAccepted h c = accepted h c v.0 v.2 in record {
  numbered = b.numbered;
  rollout = b.rollout;
  there = stays_there h c p.rollout b.rollout b.there;
  member = b.member;
  group = b.group;
  first = b.first;
  within = b.within;
  started = b.starts.now;
  is_open = still_open b.rollout p.rollout h c (w.started p.rollout b.rollout b.there) (w.follows p.rollout b.rollout b.there).outcomes b.group p.position
      b.first b.within b.starts.before;
}

pub offers_follow : OffersFollow
offers_follow h c t k p v = (to h c t k p v, from h c t k p v)
