-- The table of offers agrees where records of accepted commands are held.
use Rattle.desk_verify.proofs.Common.{◌≡◌, ℕ, zero, suc, pos, true, ◌∷◌, map, slice_get, is_none, Option, Some, None, true≢false, refl, sym, ap, ◌∙◌, arith}
use Rattle.desk_verify.proofs.Common.{and_from, and_parts, Int, Null, Row, Has, has_filtered, has_got, some_from, some_has, Offer, item_numbered, CommandList}
use Rattle.desk_verify.proofs.Common.{Bytes, records, IsValid, ActionRecord, RolloutRecord, same_refl, same_true, IsHeld, Place, actor_of, tally_of}
use Rattle.desk_verify.proofs.Common.{told_action, ledger_of, stored_action, Offers, group_row, Tables, StoredAction, row_of, wanted_of, has_mapped, map_has}
use Rattle.desk_verify.proofs.Common.{has_own_number, holds_started, is_started_at, AgreesOffers, HasNumberedAction, IsDue, IsInStartedGroup, IsOffered}
use Rattle.desk_verify.proofs.Common.{IsRightOffer, TargetOffer, offer, has_started, offered_one, is_to, offer_row, Groups}
use Rattle.rollout_machine.proofs.AtNumbers.{has_place}
use Rattle.rollout_machine.proofs.Meanings.{is_candidate, least_offer, none_from}
use Rattle.rollout_machine.proofs.AnyGroup.{started_by_any}
use Rattle.desk_records.proofs.HeldCounts.{has_place as place_of}
use Rattle.desk_verify.proofs.ActionLaw.{among, its_action}
use Rattle.desk_verify.proofs.ActionLemmas.{same_action}
use Rattle.desk_verify.proofs.GroupLaw.{group_lies, groups_in}
use Rattle.desk_verify.proofs.GroupLemmas.{one_group, one_rollout}
use Rattle.desk_verify.proofs.HeldRows.{part_of}
use Rattle.desk_verify.proofs.OfferLemmas.{none_ended}
use Rattle.desk_verify.proofs.RecordRows.{is_action, is_group, is_offer, is_offered, of_member}

-- ---- the law

module _ (h : CommandList) (valid : IsValid h) (t : Tables) (held : (p : Place) → IsHeld (ledger_of (records h)) p (t p)) where
  -- ---- actions

  -- the action as it is kept
  has_action : (d : ℕ) {a : ActionRecord} → slice_get (records h).actions d ≡ Some a
      → HasNumberedAction t (suc d) (stored_action (records h).rollouts (a, tally_of a))
  has_action d {a} at = let own = has_own_number (suc d) (Null ∷ told_action (records h).rollouts (a, tally_of a)) in
      grind (arith, among h valid t held d at, is_action h valid d at, own)

  -- ---- started groups

  in_group : (r : ℕ) {x : RolloutRecord} (place : ℕ) → item_numbered (records h).rollouts r ≡ Some x → holds_started x.groups place ≡ true
      → IsInStartedGroup t r place
  in_group zero place got any = absurd cc
  in_group (suc d) {x} place got any =
      let found = some_has (is_started_at place) x.groups any in
      let at = place_of x.groups found.0 found.1 in
      grind (arith, group_lies h valid t held d got at.0 at.1, and_parts)

  any_group : {r : ℕ} {x : RolloutRecord} {place : ℕ} → item_numbered (records h).rollouts r ≡ Some x → IsInStartedGroup t r place
      → holds_started x.groups place ≡ true
  any_group {r} {x} {place} got it =
      let of = part_of group_row groups_in (records h).rollouts (held Groups) it.row it.among in
      grind (arith, is_group h valid of.d of.got of.k of.lies of.n, one_rollout, one_group, has_got, some_from (is_started_at place) x.groups, and_from)

  -- what the action's own group says of it, any group says that holds its place
  started_is : (d : ℕ) {a : ActionRecord} {x : RolloutRecord} → slice_get (records h).actions d ≡ Some a → item_numbered (records h).rollouts a.rollout ≡ Some x
      → has_started (records h) a ≡ holds_started x.groups a.position
  started_is d {a} {x} at there = let of = has_place h (suc d) a at in grind (arith, started_by_any h (suc d) of.place x valid of.numbered)

  -- ---- offers

  -- what is offered is listed
  is_listed : (id : Bytes) (o : Offer) → offer (records h) id ≡ Some o → Has (held Offers).listed (record { target = id; offer = o })
  is_listed id o is = grind (arith, has_filtered (is_to id) (held Offers).listed (record { target = id; offer = o }), (held Offers).its id)

  right : (n : ℕ) (o : TargetOffer) → offer (records h) o.target ≡ Some o.offer → IsRightOffer t (Int (pos n) ∷ offer_row o)
  right n o is =
      let one = offered_one (records h) o.target 1 (records h).actions o.offer is in
      let number : o.offer.action ≡ suc one.index = omega (arith, one.number) in
      let of = of_member h valid one.index one.there in
      let target = same_true (actor_of (records h).rollouts one.action) o.target one.device in
      let started = started_is one.index one.there of.there in
      let group = in_group one.action.rollout one.action.position of.there in
      grind (arith, is_offer h valid n o is, has_action one.index one.there, none_ended, target, started, group)

  each : (row : Row) → Has (t Offers) row → IsRightOffer t row
  each row among = let content = wanted_of (t Offers) (map offer_row (held Offers).listed) row (held Offers).held among in
      grind (arith, content.3, has_mapped offer_row (held Offers).listed content.1 content.2, right, is_offered h valid (held Offers))

  -- ---- actions that are due

  -- where the records have such an action, its target is offered one of no greater number
  offered : (d : ℕ) (a : ActionRecord) → slice_get (records h).actions d ≡ Some a → a.outcome ≡ None → IsInStartedGroup t a.rollout a.position
      → IsOffered t (actor_of (records h).rollouts a) (suc d)
  offered d a at is_open group = go (offer (records h) (actor_of (records h).rollouts a)) refl
    where
      candidate : is_candidate (records h) (actor_of (records h).rollouts a) a ≡ true
      candidate = and_from _ _ (ap is_none is_open) (and_from _ _ (same_refl (actor_of (records h).rollouts a))
          (started_is d at (of_member h valid d at).there ∙ any_group (of_member h valid d at).there group))

      go : (found : Option Offer) → offer (records h) (actor_of (records h).rollouts a) ≡ found → IsOffered t (actor_of (records h).rollouts a) (suc d)
      go None is = absurd (true≢false (sym candidate ∙ none_from (records h) (actor_of (records h).rollouts a) 1 (records h).actions is d a at))
      go (Some o) is =
          let its : TargetOffer = record { target = actor_of (records h).rollouts a; offer = o } in
          let row = row_of (t Offers) (map offer_row (held Offers).listed) (offer_row its) (held Offers).held
          (map_has offer_row (held Offers).listed its (is_listed (actor_of (records h).rollouts a) o is)) in
          grind (arith, row.1, is_offer h valid row.0 its is, candidate, least_offer (records h) (actor_of (records h).rollouts a) o is (suc d) a at)

  all : (row : Row) (number : ℕ) (action : StoredAction) → IsDue t row number action → IsOffered t action.target number
  all row number action due = let its = its_action h valid t held row due.among in grind (arith, same_action due.is its.says, offered its.d its.one its.got)

  pub offers_agree : AgreesOffers t
  offers_agree = record { each = each; all = all }
