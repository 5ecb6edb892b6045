-- The table of groups agrees where records of accepted commands are held.
use Rattle.desk_verify.proofs.Common.{IsHeldBy, ◌≡◌, ◌≤◌, ◌<◌, ℕ, zero, suc, ◌+◌, pos, true, List, [], ◌∷◌, filter, length, map, slice_get, zip, Option, Some}
use Rattle.desk_verify.proofs.Common.{refl, sym, ap, subst, ◌∙◌, arith, is_eq, nat_tests, Int, Null, Row, has_rowid, Has, CommandList, GroupRule}
use Rattle.desk_verify.proofs.Common.{rule_at, rules_of, records, IsValid, Bounds, Outcome, ActionRecord, GroupRecord}
use Rattle.desk_verify.proofs.Common.{RolloutRecord, each_there, action_row, outcome_code, tally_of, ledger_of, IsHeld, is_of}
use Rattle.desk_verify.proofs.Common.{group_row, members_from, rollout_row, rule_row, told_rollout, Actions, Groups, Members, Place, Rollouts, Rules, IsGroup}
use Rattle.desk_verify.proofs.Common.{Tables, at_place, has_place, held_passing, own_parts, has_own_number, HasRule, AgreesGroups, HasGroup, IsCutBy}
use Rattle.desk_verify.proofs.Common.{IsInRollout, IsRightGroup, ended_in, has_ended, member_count, rows_from, count_actions, groups_are_counted}
use Rattle.std.proofs.lemmas.Int.{ints}
use Rattle.sqlite_value.proofs.OrderLemmas.{value_cmp-Int}
use Rattle.desk_records.specs.CheckedRows.{counted_in}
use Rattle.desk_records.specs.Columns.{small_number}
use Rattle.desk_records.specs.CountedActions.{is_counted}
use Rattle.desk_verify.proofs.PlanLaw.{each_has, rule_told, rules_make}
use Rattle.desk_verify.proofs.CodeLemmas.{group_count_is}
use Rattle.desk_verify.proofs.HeldRows.{item_lies, item_of, part_lies, part_of, parts_mapped}
use Rattle.desk_verify.proofs.RecordRows.{counted, few_groups, is_group, planned, small_place, within}

-- ---- rows

counted_is : (place : ℕ) (ended : Option Outcome) → small_number (Int (pos place)) ≡ Some place → counted_in (Int (pos place)) (Int (pos (outcome_code ended)))
    ≡ Some (record { place = place; outcome = ended })
counted_is place ended few = grind (arith, few)

pub one_rowid : (at r : ℕ) (rest : Row) → has_rowid (pos r) (Int (pos at) ∷ rest) ≡ true → at ≡ r
one_rowid at r rest h = let same = sym (ap is_eq (value_cmp-Int (pos at) (pos r))) ∙ h in grind (arith, ints, nat_tests, same)

-- ---- counts

-- a group counts in the rows what it counts in the records
count_rows : (rollouts : List RolloutRecord) (r : ℕ) (bounds : Bounds) (outcome : Outcome) (k : ℕ) (actions : List ActionRecord)
    → ((a : ActionRecord) → Has actions a → small_number (Int (pos a.position)) ≡ Some a.position)
    → length (filter (is_counted r (has_ended bounds outcome)) (rows_from (action_row rollouts) k (zip actions (map tally_of actions))))
    ≡ count_actions outcome r bounds actions
count_rows rollouts r bounds outcome k [] few = refl
count_rows rollouts r bounds outcome k (a ∷ actions) few = grind (arith, count_rows rollouts r bounds outcome (k + 1) actions, counted_is)

-- ---- the law

abbrev pub rules_in : RolloutRecord → List GroupRule
rules_in x = rules_of x.plan

abbrev pub groups_in : RolloutRecord → List GroupRecord
groups_in x = x.groups

module _ (h : CommandList) (valid : IsValid h) (t : Tables) (held : (p : Place) → IsHeld (ledger_of (records h)) p (t p)) where
  ended_are : (r : ℕ) (bounds : Bounds) (outcome : Outcome) → ended_in t r bounds outcome ≡ count_actions outcome r bounds (records h).actions
  ended_are r bounds outcome =
      ap (λ rows. length (filter (is_counted r (has_ended bounds outcome)) rows)) (held Actions)
      ∙ count_rows (records h).rollouts r bounds outcome 1 (records h).actions
      (λ a among. let at = has_place (records h).actions a among in small_place h valid at.0 at.1)

  -- ---- one rollout

  module _ (d : ℕ) {x : RolloutRecord} (got : slice_get (records h).rollouts d ≡ Some x) where
    members_are : member_count t (suc d) ≡ length x.members
    members_are = held_passing (is_of (suc d)) (λ id row. refl) (t Members) (members_from 1 (records h).rollouts) (held Members)
        ∙ own_parts _ (λ (y : RolloutRecord). y.members) 1 (suc d) d (records h).rollouts x (omega arith) got

    has_rule : (i : ℕ) → 1 ≤ i → i < 1 + x.plan.groups.count → HasRule t (suc d) i (rule_at x.plan i)
    has_rule zero low high = absurd (omega (arith, low))
    has_rule (suc e) low high =
        let rules = subst (IsHeldBy (t Rules)) (parts_mapped rule_row rules_in 1 (records h).rollouts) (held Rules) in
        let one = each_there (rule_at x.plan) 1 x.plan.groups.count e (suc e) (omega (arith, high)) (omega arith) in
        let lies = part_lies rule_row rules_in (records h).rollouts rules d e x (rule_at x.plan (suc e)) got one in
        grind (arith, nat_tests, lies.1, rule_told x.plan (suc e) (planned h valid d got).formed)

    cut : IsCutBy t (suc d) x.plan.groups
    cut = let lies = item_lies rollout_row (records h).rollouts (held Rollouts) d x got in
        let many = group_count_is x.plan.groups.count (within h valid d got).some_groups (within h valid d got).groups in
        let have = each_has (HasRule t (suc d)) (rule_at x.plan) 1 x.plan.groups.count has_rule in
        grind (arith, has_own_number (suc d) (Null ∷ told_rollout x), rules_make x.plan (planned h valid d got).formed)

    -- ---- one group

    module _ (e : ℕ) {g : GroupRecord} (at : slice_get x.groups e ≡ Some g) where
      right : IsRightGroup t (suc d) x.plan.groups g
      right = grind (arith, counted h valid d got e at, few_groups h valid d got e at, members_are, ended_are (suc d) g.bounds)

      in_rollout : (n : ℕ) → IsInRollout t (Int (pos n) ∷ group_row (suc d) (suc e) g)
      in_rollout n = grind (arith, is_group h valid d got e at n, cut, members_are, planned h valid d got, right)

      -- a row is it
      pub group_lies : (row : Row) × Has (t Groups) row × IsGroup row (suc d) g
      group_lies = let row = part_lies group_row groups_in (records h).rollouts (held Groups) d e x g got at in
          (Int (pos row.0) ∷ group_row (suc d) (suc e) g, row.1, is_group h valid d got e at row.0)

    has_group : (i : ℕ) → 1 ≤ i → i ≤ x.plan.groups.count → HasGroup t (suc d) i
    has_group zero low high = absurd (omega (arith, low))
    has_group (suc e) low high = let one = at_place x.groups e (omega (arith, high, (groups_are_counted h (suc d) x valid got).as_many)) in
        grind (arith, group_lies e one.1, counted h valid d got e one.1)

  -- ---- all of them

  pub groups_agree : AgreesGroups t
  groups_agree = record {
    each = λ row among. let it = part_of group_row groups_in (records h).rollouts (held Groups) row among in
        subst (IsInRollout t) (sym it.is) (in_rollout it.d it.got it.k it.lies it.n);
    all = λ rollout n i first has low high.
        let it = item_of rollout_row (records h).rollouts (held Rollouts) has.row has.among in
        let own : suc it.d ≡ rollout = one_rowid (suc it.d) rollout (Null ∷ told_rollout it.one) (ap (has_rowid (pos rollout)) (sym it.is) ∙ has.numbered) in
        let kept = within h valid it.d it.got in
        grind (arith, own, has.says, group_count_is it.one.plan.groups.count kept.some_groups kept.groups, has_group it.d it.got i low);
  }
