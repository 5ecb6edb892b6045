-- The tables of rollouts, groups and rules can be read where records of accepted commands are held.
use Rattle.desk_verify.proofs.Common.{IsHeldBy, ◌≡◌, ℕ, suc, slice_get, Some, None, subst, arith, and_parts, numbered_each, CommandList, IsValid, RolloutRecord}
use Rattle.desk_verify.proofs.Common.{rule_at, records, is_number_in, IsStoredRolloutRow, stored_rollout, group_row, rollout_row, rule_row, told_rollout}
use Rattle.desk_verify.proofs.Common.{told_rule, Groups, Rollouts, Rules, BreaksColumn}
use Rattle.desk_verify.proofs.GroupLaw.{groups_in, rules_in}
use Rattle.desk_verify.proofs.HeldRows.{parts_mapped}
use Rattle.desk_verify.proofs.RecordRows.{few_rollouts, is_group, planned, within}
use Rattle.desk_records.specs.ReadRows.{broken_stored_rollout_column}
use Rattle.desk_records.proofs.RowsTold.{whole_stored_rollout, whole_rule}
use Rattle.desk_verify.proofs.CodeLemmas.{approval_is, flag_is, group_count_is, is_sized, percentage_is}
use Rattle.desk_verify.proofs.PlanLaw.{rule_told}
use Rattle.desk_verify.proofs.ReadableRows.{Keeps, fails_not, of_ordered, of_parts, unbroken}

-- ---- rollouts

module _ (h : CommandList) (valid : IsValid h) (d : ℕ) (x : RolloutRecord) (at : slice_get (records h).rollouts d ≡ Some x) where
  -- its row keeps the rule of each column
  pub whole_rollout : broken_stored_rollout_column (told_rollout x) ≡ None
  whole_rollout =
      let formed = (planned h valid d at).formed in
      let number = is_number_in x.plan.set_number in
      let says : IsStoredRolloutRow (told_rollout x) (stored_rollout x) =
      grind (arith, and_parts, number, group_count_is, within h valid d at, percentage_is, approval_is x.approval, flag_is) in
      grind (arith, and_parts, whole_stored_rollout (told_rollout x) (stored_rollout x) says)

  one_rollout : BreaksColumn Rollouts (rollout_row (suc d) x) → ⊥
  one_rollout bad = grind (arith, fails_not, is_sized, few_rollouts h valid d at, unbroken, whole_rollout)

pub keeps_rollouts : (h : CommandList) → IsValid h → Keeps (records h) Rollouts
keeps_rollouts h valid rows are = of_ordered (λ row. BreaksColumn Rollouts row → ⊥) rollout_row (records h).rollouts rows are (one_rollout h valid)

pub keeps_groups : (h : CommandList) → IsValid h → Keeps (records h) Groups
keeps_groups h valid rows held = of_parts (λ row. BreaksColumn Groups row → ⊥) group_row groups_in (records h).rollouts rows held
    (λ n d e x g at lies. unbroken _ (is_group h valid d at e lies n).kept)

-- ---- rules

pub keeps_rules : (h : CommandList) → IsValid h → Keeps (records h) Rules
keeps_rules h valid rows held = of_parts (λ row. BreaksColumn Rules row → ⊥) rule_row rules_in (records h).rollouts rows
    (subst (IsHeldBy rows) (parts_mapped rule_row rules_in 1 (records h).rollouts) held) (λ n d k x it at lies bad.
    let one = numbered_each (rule_at x.plan) x.plan.groups.count (suc k) it lies in
    grind (arith, unbroken, one, whole_rule (told_rule it) it, rule_told x.plan (suc k) (planned h valid d at).formed))

pub ruleset rollouts_readable = (keeps_rollouts, keeps_groups, keeps_rules)
