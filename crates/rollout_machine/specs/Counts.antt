-- The counts of outcomes in a group, and its two conditions.
use Rattle.std.specs.Prelude.{ℕ, ◌*◌, Bool, true, false, nat_le, Option, Some}
use Rattle.rollout_machine.specs.Actions.{outcome}
use Rattle.rollout_machine.specs.CommandList.{CommandList}
use Rattle.rollout_machine.specs.Commands.{Outcome, Good, Bad, Gone}
use Rattle.rollout_machine.specs.Ranges.{count_from}
use Rattle.rollout_machine.specs.Rollouts.{rule_at, Rollout, first_of, size_in}

abbrev pub is_outcome : Outcome → Option Outcome → Bool
is_outcome Good (Some Good) = true
is_outcome Bad (Some Bad) = true
is_outcome Gone (Some Gone) = true
is_outcome _ _ = false

-- x is the rollout of number r. How many actions of its group i have the outcome o
abbrev pub tally : Outcome → Rollout → ℕ → ℕ → CommandList → ℕ
tally o x r i h = count_from (λ j. is_outcome o (outcome h r j)) (first_of x i) (size_in x i)

abbrev pub reaches : ℕ → ℕ → ℕ → Bool
reaches good size percent = nat_le (percent * size) (100 * good)

abbrev pub success_holds : Rollout → ℕ → ℕ → CommandList → Bool
success_holds x r i h = reaches (tally Good x r i h) (size_in x i) (rule_at x.plan i).success

abbrev pub error_holds : Rollout → ℕ → ℕ → CommandList → Bool
error_holds x r i h = reaches (tally Bad x r i h) (size_in x i) (rule_at x.plan i).error
