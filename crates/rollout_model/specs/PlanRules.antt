-- What a plan says of one group.
use Rattle.std.specs.Prelude.{ℕ, Option, Some, None}
use Rattle.rollout_model.specs.Rules.{item_numbered}
use Rattle.rollout_model.specs.declared.group_definition.GroupDefinition.{GroupDefinition}
use Rattle.rollout_model.specs.declared.group_rule.GroupRule.{GroupRule}
use Rattle.rollout_model.specs.declared.rollout_plan.RolloutPlan.{RolloutPlan}

-- The rule of a definition; without one that of the plan's own thresholds.
abbrev pub rule_by : Option GroupDefinition → RolloutPlan → GroupRule
rule_by None plan = record { percentage = None; success = plan.success; error = plan.error }
rule_by (Some d) plan = record { percentage = Some d.percentage; success = d.success; error = d.error }

-- The rule of group i, counted from 1: its definition's. A group that isn't there has none.
abbrev pub rule_at : RolloutPlan → ℕ → GroupRule
rule_at plan i = rule_by (item_numbered plan.groups.definitions i) plan
