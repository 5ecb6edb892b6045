-- An action of a list of accepted commands has its rollout and its group, of which something is said, and no group ends beyond 32 bits.
use Rattle.desk_commands.proofs.Common.{◌≡◌, ◌≤◌, ℕ, Option, Some, length, option_map, sym, ap, ◌∙◌, subst, arith, zip, item_numbered, CommandList}
use Rattle.desk_commands.proofs.Common.{IsValid, GroupRule, rule_at, rollout_in, group_in, records, group_holding, number_of_group, ActionRecord, GroupRecord}
use Rattle.desk_commands.proofs.Common.{RolloutRecord, tally_of, Ledger, ledger_of, stored_action, stored_rollout, group_and_next, GroupAndNext, StoredAction}
use Rattle.desk_commands.proofs.Common.{has_place, of_rollout, recorded, invariant_of, limits_hold, last_of, size_of, groups_of, rule_numbered}
use Rattle.desk_commands.proofs.Common.{StoredRollout, rule_there, rules_there, IsActionOf, EndsBeyond}
use Rattle.rollout_machine.proofs.Cuts.{group_of, in_its_group}
use Rattle.rollout_machine.proofs.Ties.{find_holding}
use Rattle.desk_commands.proofs.GroupNumbers.{group_there, held_stands, numbered_groups, same_groups}
use Rattle.desk_commands.proofs.ItemSteps.{own_pair, shown}
use Rattle.desk_commands.proofs.KnownActions.{both_read}

-- ---- the groups

module _ (h : CommandList) (valid : IsValid h) (r : ℕ) (y : RolloutRecord) (at : item_numbered (records h).rollouts r ≡ Some y) (i : ℕ) (g : GroupRecord)
    (its : item_numbered y.groups i ≡ Some g) where
  pub group_ends : g.bounds.last ≤ 10000
  group_ends =
      let of = of_rollout h r y at in
      let one = group_there h r y at i g its in
      let cut = ((invariant_of h valid).follows r of.rollout of.there).sound.cut in
      let last : g.bounds.last ≡ last_of of.rollout i = ap (λ (b : GroupRecord). b.bounds.last) one.is in
      let size : length y.members ≡ size_of of.rollout = ap (λ (z : RolloutRecord). length z.members) of.is in
      omega (arith, last, size, cut.rises i of.rollout.plan.groups.count one.high, cut.whole, ((limits_hold h valid).each r y at).members)

  -- something is said of it
  pub group_ruled : rule_numbered (ledger_of (records h)).rules r i ≡ Some (rule_at y.plan i)
  group_ruled =
      let of = of_rollout h r y at in
      let one = group_there h r y at i g its in
      let count : y.plan.groups.count ≡ of.rollout.plan.groups.count = ap (λ (z : RolloutRecord). z.plan.groups.count) of.is in
      ap (λ rules. item_numbered rules i) (rules_there (records h) r y at) ∙ rule_there y.plan i one.low (omega (arith, count, one.high))

-- ---- the action

-- what a read of its rollout and its group finds
pub record HasGroup (l : Ledger) (action : StoredAction) : Type 0 where
  pub rollout : RolloutRecord
  pub its : item_numbered l.records.rollouts action.rollout ≡ Some rollout
  pub own : GroupRecord
  pub held : (group_and_next action.position (groups_of (Some rollout))).group ≡ Some own
  pub ends : own.bounds.last ≤ 10000
  pub rule : GroupRule
  pub is_said : rule_numbered l.rules action.rollout own.number ≡ Some rule

module _ (h : CommandList) (valid : IsValid h) (k : ℕ) where
  of_record : (a : ActionRecord) → item_numbered (records h).actions k ≡ Some a
      → HasGroup (ledger_of (records h)) (stored_action (records h).rollouts (a, tally_of a))
  of_record a numbered =
      let at = has_place h k a numbered in
      let placed = (invariant_of h valid).placed k at.place at.numbered in
      let y = rollout_in h at.place.rollout placed.rollout in
      let its : item_numbered (records h).rollouts a.rollout ≡ Some y = ap (λ (b : ActionRecord). item_numbered (records h).rollouts b.rollout) at.is
      ∙ recorded h at.place.rollout placed.rollout placed.there in
      let own = group_in placed.rollout at.place.rollout h (group_of placed.rollout at.place.position) in
      let holds : group_holding a.position y.groups ≡ Some own =
      ap (λ (b : ActionRecord). group_holding b.position y.groups) at.is
      ∙ find_holding placed.rollout at.place.rollout h (group_of placed.rollout at.place.position) at.place.position placed.sound
      (in_its_group placed.rollout at.place.position placed.sound placed.low placed.high) in
      let numbers = numbered_groups h a.rollout y its in
      let stands : item_numbered y.groups own.number ≡ Some own = held_stands y.groups numbers a.position own holds in
      record {
        rollout = y;
        its = its;
        own = own;
        held = ap (λ gs. (group_and_next a.position gs).group) (same_groups y.groups numbers)
            ∙ ap (λ (b : GroupAndNext). b.group) (both_read h valid k a y numbered its) ∙ ap (λ o. item_numbered y.groups (number_of_group o)) holds ∙ stands;
        ends = group_ends h valid a.rollout y its own.number own stands;
        rule = rule_at y.plan own.number;
        is_said = group_ruled h valid a.rollout y its own.number own stands;
      }

  of_stored : (action : StoredAction) → Some action
      ≡ option_map (stored_action (records h).rollouts) (item_numbered (zip (records h).actions (ledger_of (records h)).tallies) k)
      → HasGroup (ledger_of (records h)) action
  of_stored action told =
      let it = shown (stored_action (records h).rollouts) (item_numbered (zip (records h).actions (ledger_of (records h)).tallies) k) action (sym told) in
      let own = own_pair tally_of k (records h).actions it.0 it.1 in
      subst (λ s. HasGroup (ledger_of (records h)) s) (sym (it.2 ∙ ap (stored_action (records h).rollouts) own.2)) (of_record own.0 own.1)

pub has_group : (k : ℕ) (action : StoredAction) (l : Ledger) → IsActionOf k action l → HasGroup l action
has_group k action l w = grind (arith, of_stored, option_map)

-- ---- what was read of it

module _ (l : Ledger) (action : StoredAction) (w : HasGroup l action) where
  pub rollout_is : (x : Option StoredRollout) → x ≡ option_map stored_rollout (item_numbered l.records.rollouts action.rollout)
      → x ≡ Some (stored_rollout w.rollout)
  rollout_is x is = is ∙ ap (option_map stored_rollout) w.its

  pub own_is : (both : GroupAndNext) → both ≡ group_and_next action.position (groups_of (item_numbered l.records.rollouts action.rollout)) → both.group
      ≡ Some w.own
  own_is both is = ap (λ (b : GroupAndNext). b.group) is ∙ ap (λ o. (group_and_next action.position (groups_of o)).group) w.its ∙ w.held

  module _ (both : GroupAndNext) (is : both ≡ group_and_next action.position (groups_of (item_numbered l.records.rollouts action.rollout))) (own : GroupRecord)
      (found : both.group ≡ Some own) where
    same_own : w.own ≡ own
    same_own = let one : Some w.own ≡ Some own = sym (own_is both is) ∙ found in cc

    pub rule_is_there : rule_numbered l.rules action.rollout own.number ≡ Some w.rule
    rule_is_there = ap (λ (x : GroupRecord). rule_numbered l.rules action.rollout x.number) (sym same_own) ∙ w.is_said

    pub never_beyond : EndsBeyond (Some own) → ⊥
    never_beyond beyond = grind (arith, same_own)
