-- The rollouts of a command list with their members.
use Rattle.std.specs.Prelude.{ℕ, List, [], ◌∷◌, ◌++◌, map, filter, length, Option, Some, None}
use Rattle.rollout_machine.specs.ByteStrings.{item_numbered}
use Rattle.rollout_machine.specs.CommandList.{CommandList, Make, ◌▸◌}
use Rattle.rollout_machine.specs.Commands.{Bytes, RolloutPlan, Command, CreateRollout}
use Rattle.rollout_machine.specs.Filters.{matches}
use Rattle.target_filter.specs.Profile.{filter_of}
use Rattle.target_filter.specs.Grammar.{Tree}
use Rattle.rollout_machine.specs.Groups.{size_of_bounds}
use Rattle.rollout_machine.specs.Groupings.{bounds_by}
pub use Rattle.rollout_machine.specs.GroupRules.{rule_at}
use Rattle.rollout_machine.specs.Targets.{Target, targets}
use Rattle.rollout_machine.specs.declared.bounds.Bounds.{Bounds}

pub record Rollout : Type 0 where
  pub plan : RolloutPlan
  pub members : List Bytes

abbrev pub chosen : Option Tree → List Target → List Bytes
chosen None ts = []
chosen (Some f) ts = map (λ (t : Target). t.id) (filter (matches f) ts)

-- its members are the targets that match just before it
abbrev pub created : CommandList → Command → List Rollout
created h (CreateRollout plan) = record { plan = plan; members = chosen (filter_of plan.filter_text) (targets h) } ∷ []
created h _ = []

-- the rollouts in the order of their numbers
abbrev pub rollouts : CommandList → List Rollout
rollouts (Make approval) = []
rollouts (h ▸ c) = rollouts h ++ created h c

abbrev pub rollout_at : CommandList → ℕ → Option Rollout
rollout_at h r = item_numbered (rollouts h) r

abbrev pub size_of : Rollout → ℕ
size_of x = length x.members

abbrev pub bounds_in : Rollout → ℕ → Bounds
bounds_in x i = bounds_by x.plan.groups (size_of x) i

abbrev pub first_of : Rollout → ℕ → ℕ
first_of x i = (bounds_in x i).first

abbrev pub last_of : Rollout → ℕ → ℕ
last_of x i = (bounds_in x i).last

abbrev pub size_in : Rollout → ℕ → ℕ
size_in x i = size_of_bounds (bounds_in x i)
