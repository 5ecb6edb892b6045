-- Groups that can be shown, and those that can't.
use Rattle.std.specs.Prelude.{◌≡◌, ◌≤◌, ◌^◌, ◌⊎◌, ℕ, List, None, Some}
use Rattle.sqlite_rules.specs.Lists.{Has}
use Rattle.rollout_machine.specs.ByteStrings.{item_numbered}
use Rattle.rollout_machine.specs.Records.{Records}
use Rattle.rollout_machine.specs.Groups.{size_of_bounds}
use Rattle.rollout_machine.specs.declared.records.GroupRecord.{GroupRecord}
use Rattle.rollout_machine.specs.declared.records.RolloutRecord.{RolloutRecord}
use Rattle.rollout_model.specs.declared.group_rule.GroupRule.{GroupRule}

-- nothing is said of one of the groups, or it has more members than are counted
pub record HasUnshown (rules : List GroupRule) (groups : List GroupRecord) : Type 0 where
  pub group : GroupRecord
  pub among : Has groups group
  pub unshown : (item_numbered rules group.number ≡ None) ⊎ (2 ^ 32 ≤ size_of_bounds group.bounds)

-- the group is one of those of the rollout of a number
pub record IsGroupOf (number : ℕ) (group : GroupRecord) (r : Records) : Type 0 where
  pub rollout : RolloutRecord
  pub there : item_numbered r.rollouts number ≡ Some rollout
  pub among : Has rollout.groups group
