-- What a plan says of its groups: how many of the members that are left each takes, and its thresholds.
use Rattle.std.specs.Prelude.{List, None}
pub use Rattle.rollout_model.specs.declared.group_rule.GroupRule.{GroupRule}
pub use Rattle.rollout_model.specs.PlanRules.{rule_by, rule_at}
use Rattle.rollout_machine.specs.Commands.{RolloutPlan}
use Rattle.rollout_machine.specs.Ranges.{each_from}

-- the rules of all groups of a plan
abbrev pub rules_of : RolloutPlan → List GroupRule
rules_of plan = each_from (rule_at plan) 1 plan.groups.count

-- those of a plan that says nothing of single groups
abbrev pub even_rules : RolloutPlan → List GroupRule
even_rules plan = each_from (λ i. rule_by None plan) 1 plan.groups.count
