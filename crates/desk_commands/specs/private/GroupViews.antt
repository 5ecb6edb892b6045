-- A group as the rules of rollouts rest on it.
use Rattle.std.specs.Prelude.{ℕ, ◌+◌, ◌≤◌, ◌^◌, Option, Some, None}
use Rattle.rollout_machine.specs.GroupRules.{GroupRule}
use Rattle.rollout_machine.specs.Groups.{size_of_bounds}
use Rattle.rollout_machine.specs.declared.records.GroupRecord.{GroupRecord}
use Rattle.rollout_machine.specs.declared.view.GroupView.{GroupView}

-- a group of this number, with the thresholds that are said of it: one of no members where there is none
abbrev pub view_by : GroupRule → ℕ → Option GroupRecord → GroupView
view_by rule i None = record { number = i; size = 0; ok = 0; bad = 0; success = rule.success; error = rule.error }
view_by rule i (Some g) = record { number = i; size = size_of_bounds g.bounds; ok = g.ok; bad = g.bad; success = rule.success; error = rule.error }

-- the place behind its last one is no number of 32 bits
abbrev pub EndsBeyond : Option GroupRecord → Type 0
EndsBeyond None = ⊥
EndsBeyond (Some g) = 2 ^ 32 ≤ g.bounds.last + 1
