-- The groups of a rollout are those of its plan, and their counts are those of its actions.
use Rattle.std.specs.Prelude.{◌≡◌, ℕ, length, Some}
use Rattle.rollout_machine.specs.ByteStrings.{item_numbered}
use Rattle.rollout_machine.specs.CommandList.{CommandList}
use Rattle.rollout_machine.specs.Commands.{Good, Bad, Gone}
use Rattle.rollout_machine.specs.Kinds.{count_actions}
use Rattle.rollout_machine.specs.Records.{GroupRecord, Records, RolloutRecord, records}
use Rattle.rollout_machine.specs.Groupings.{bounds_by}
use Rattle.rollout_machine.specs.Validity.{IsValid}

-- The group is number i of rollout r: it has the bounds that the plan gives it, and of the rollout's actions at positions between them it
-- counts those of each outcome.
pub record IsCountedGroup (rs : Records) (r : ℕ) (x : RolloutRecord) (i : ℕ) (g : GroupRecord) : Type 0 where
  pub number : g.number ≡ i
  pub bounds : g.bounds ≡ bounds_by x.plan.groups (length x.members) i
  pub ok : g.ok ≡ count_actions Good r g.bounds rs.actions
  pub bad : g.bad ≡ count_actions Bad r g.bounds rs.actions
  pub gone : g.gone ≡ count_actions Gone r g.bounds rs.actions

-- the rollout is number r, and has as many groups as its plan says
pub record HasCountedGroups (rs : Records) (r : ℕ) (x : RolloutRecord) : Type 0 where
  pub number : x.number ≡ r
  pub as_many : length x.groups ≡ x.plan.groups.count
  pub each : (i : ℕ) (g : GroupRecord) → item_numbered x.groups i ≡ Some g → IsCountedGroup rs r x i g

abbrev pub GroupsAreCounted : Type 0
GroupsAreCounted = (h : CommandList) (r : ℕ) (x : RolloutRecord) → IsValid h → item_numbered (records h).rollouts r ≡ Some x → HasCountedGroups (records h) r x
