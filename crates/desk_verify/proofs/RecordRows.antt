-- What the rows of records say that accepted commands make: each column keeps its rule.
use Rattle.desk_verify.proofs.Common.{◌≡◌, ◌≤◌, ◌<◌, ℕ, zero, suc, ◌-◌, pos, true, List, [], ◌∷◌, length, map, slice_get, zip, unwrap_or, Option, Some, ap, ◌∙◌}
use Rattle.desk_verify.proofs.Common.{arith, and_parts, Int, Row, Has, has_got, has_kept, is_number, item_numbered, CommandList, Bytes, IsOfMember, records}
use Rattle.desk_verify.proofs.Common.{IsValid, IsWithinLimits, IsCountedGroup, GroupRecord, ActionRecord, RolloutRecord, last_by, actions_follow_members}
use Rattle.desk_verify.proofs.Common.{groups_are_counted, grouping_is_cut, limits_hold, Tally, action_row, actor_of, tally_of, stored_action, member_row}
use Rattle.desk_verify.proofs.Common.{group_row, member_at, IsAction, IsGroup, IsMember, IsOffer, TargetOffer, Offer, offer, offer_to, offer_row, offered_one}
use Rattle.desk_verify.proofs.Common.{same_refl, same_true, HoldsOffers, is_to, place_within, is_in_range, is_number_in, is_small, member_ids}
use Rattle.rollout_machine.specs.Verdicts.{notes_of}
use Rattle.desk_records.specs.Columns.{small_number}
use Rattle.desk_verify.proofs.CodeLemmas.{flag_is, kept_group, outcome_is}
use Rattle.desk_verify.proofs.FewNotes.{few_notes}
use Rattle.desk_verify.proofs.PlanLaw.{IsPlanned, plans_are}

-- ---- actions with what is counted of each

pub with_tally : (actions : List ActionRecord) (d : ℕ) (a : ActionRecord) → slice_get actions d ≡ Some a → slice_get (zip actions (map tally_of actions)) d
    ≡ Some (a, tally_of a)
with_tally [] d a e = absurd cc
with_tally (b ∷ actions) d a e = grind (arith, with_tally actions)

pub its_tally : (actions : List ActionRecord) (d : ℕ) (it : ActionRecord × Tally) → slice_get (zip actions (map tally_of actions)) d ≡ Some it
    → (a : ActionRecord) × (slice_get actions d ≡ Some a) × (it ≡ (a, tally_of a))
its_tally [] d it e = absurd cc
its_tally (b ∷ actions) d it e = grind (arith, its_tally actions)

module _ (h : CommandList) (valid : IsValid h) where
  -- ---- rollouts

  module _ (d : ℕ) {x : RolloutRecord} (got : slice_get (records h).rollouts d ≡ Some x) where
    pub within : IsWithinLimits x
    within = (limits_hold h valid).each (suc d) x got

    pub few_rollouts : d < 1000
    few_rollouts = omega (arith, place_within (records h).rollouts d x got, (limits_hold h valid).rollouts)

    good_rollout : is_number (suc d) ≡ true
    good_rollout = is_in_range (suc d) (omega arith) (omega (arith, few_rollouts))

    pub planned : IsPlanned x.plan (length x.members)
    planned = plans_are h valid (suc d) x got

    pub is_member : (n k : ℕ) {id : Bytes} → slice_get x.members k ≡ Some id → IsMember (Int (pos n) ∷ member_row (suc d) (suc k) id) (suc d) (suc k) id
    is_member n k {id} at = let word = member_ids h valid x (has_got (records h).rollouts d x got) id (has_got x.members k id at) in
        grind (arith, is_number_in (suc d) good_rollout, is_small (suc k), place_within x.members k id at, within.members, word)

    -- its groups
    module _ (e : ℕ) {g : GroupRecord} (at : slice_get x.groups e ≡ Some g) where
      pub counted : IsCountedGroup (records h) (suc d) x (suc e) g
      counted = (groups_are_counted h (suc d) x valid got).each (suc e) g at

      pub few_groups : suc e ≤ x.plan.groups.count
      few_groups = omega (arith, place_within x.groups e g at, (groups_are_counted h (suc d) x valid got).as_many)

      few_at : (i : ℕ) → i ≤ x.plan.groups.count → last_by x.plan.groups (length x.members) i ≤ length x.members
      few_at i low = grind (arith, grouping_is_cut, and_parts)

      pub is_group : (n : ℕ) → IsGroup (Int (pos n) ∷ group_row (suc d) (suc e) g) (suc d) g
      is_group n = let first = few_at (suc e - 1) (omega (arith, few_groups)) in let last = few_at (suc e) few_groups in
          let number = is_number_in (suc d) good_rollout in let counts = within.counts (suc e) g at in
          grind (arith, number, counted.number, counted.bounds, flag_is, kept_group, few_groups, within.groups, within.members, counts, first, last)

  numbered_member : (r p : ℕ) {x : RolloutRecord} {id : Bytes} → item_numbered (records h).rollouts r ≡ Some x → item_numbered x.members p ≡ Some id
      → IsMember (Int (pos 0) ∷ member_row r p id) r p id
  numbered_member zero p there at = absurd cc
  numbered_member (suc d) zero there at = absurd cc
  numbered_member (suc d) (suc k) there at = is_member d there 0 k at

  -- ---- actions

  module _ (d : ℕ) {a : ActionRecord} (got : slice_get (records h).actions d ≡ Some a) where
    pub of_member : IsOfMember (records h) a
    of_member = (actions_follow_members h valid).of_members (suc d) a got

    pub actor_is : actor_of (records h).rollouts a ≡ of_member.target
    actor_is = ap (λ o. member_at o a.position) of_member.there ∙ ap (λ o. unwrap_or o []) of_member.member

    says_member : IsMember (Int (pos 0) ∷ member_row a.rollout a.position of_member.target) a.rollout a.position of_member.target
    says_member = numbered_member a.rollout a.position of_member.there of_member.member

    pub small_place : small_number (Int (pos a.position)) ≡ Some a.position
    small_place = says_member.place_is

    pub few_actions : d < 10000000
    few_actions = omega (arith, place_within (records h).actions d a got, (limits_hold h valid).actions)

    pub is_action : IsAction (action_row (records h).rollouts (suc d) (a, tally_of a)) (suc d) (stored_action (records h).rollouts (a, tally_of a))
    is_action = let number = is_number_in (suc d) (is_in_range (suc d) (omega arith) (omega (arith, few_actions))) in
        let notes = is_small (notes_of a) (omega (arith, few_notes h valid (suc d) a got)) in
        grind (arith, number, says_member, flag_is a.canceling, outcome_is a.outcome, small_place, actor_is, notes)

  -- ---- offers

  offered_by : (o : TargetOffer) (found : Option Offer) → Has (offer_to o.target found) o → found ≡ Some o.offer
  offered_by o found among = grind arith

  -- what is listed is offered
  pub is_offered : {rows : List Row} (held : HoldsOffers rows (offer (records h))) (o : TargetOffer) → Has held.listed o → offer (records h) o.target
      ≡ Some o.offer
  is_offered held o among = grind (arith, held.its o.target, has_kept (is_to o.target) held.listed o among, same_refl)

  pub is_offer : (n : ℕ) (o : TargetOffer) → offer (records h) o.target ≡ Some o.offer → IsOffer (Int (pos n) ∷ offer_row o) o.target o.offer
  is_offer n o is = let one = offered_one (records h) o.target 1 (records h).actions o.offer is in
      grind (arith, same_true (actor_of (records h).rollouts one.action) o.target one.device, is_action one.index one.there, flag_is, one.number)
