-- Rollouts as they are read.
use Rattle.std.specs.Prelude.{◌≡◌, ℕ, ◌-◌, List, length, Option, Some, None, slice_get}
use Rattle.rollout_machine.specs.declared.records.GroupRecord.{GroupRecord}
use Rattle.rollout_machine.specs.declared.records.RolloutRecord.{RolloutRecord}
use Rattle.desk_records.specs.RolloutRow.{told_plan}
use Rattle.desk_reads.specs.declared.rollouts.SeenRollout.{SeenRollout}

-- the place of the last member of the last group
abbrev pub last_in : Option GroupRecord → ℕ
last_in None = 0
last_in (Some g) = g.bounds.last

abbrev pub last_place : List GroupRecord → ℕ
last_place gs = last_in (slice_get gs (length gs - 1))

-- it is this rollout but for its members, whose last group ends with the last of them
pub record IsSeenOf (seen : SeenRollout) (x : RolloutRecord) : Type 0 where
  pub number : seen.number ≡ x.number
  pub plan : seen.plan ≡ told_plan x.plan
  pub approval : seen.approval ≡ x.approval
  pub started : seen.started ≡ x.started
  pub paused : seen.paused ≡ x.paused
  pub groups : seen.groups.items ≡ x.groups
  pub members : last_place x.groups ≡ length x.members
