-- Pauses and starts, found in the command list.
use Rattle.std.specs.Prelude.{ℕ, zero, suc, Bool, false, ◌&&◌, ◌||◌, not, nat_eq, nat_lt}
use Rattle.rollout_machine.specs.CommandList.{CommandList, Make, ◌▸◌}
use Rattle.rollout_machine.specs.Commands.{Command, Start, Pause, Resume, TriggerNext}
use Rattle.rollout_machine.specs.Counts.{success_holds, error_holds}
use Rattle.rollout_machine.specs.Ranges.{some_up_to}
use Rattle.rollout_machine.specs.Rollouts.{Rollout}

-- what a command says of a rollout's progress
pub data Move : Type 0 where
  Starts : Move
  Pauses : Move
  Resumes : Move
  Triggers : Move

-- whether the command makes this move of rollout r
abbrev pub makes : Move → ℕ → Command → Bool
makes Starts r (Start q) = nat_eq q r
makes Pauses r (Pause q) = nat_eq q r
makes Resumes r (Resume q) = nat_eq q r
makes Triggers r (TriggerNext q) = nat_eq q r
makes _ r _ = false

-- a pause begins at h followed by c: by a command, or as the error condition of a group begins to hold
abbrev pub pause_begins : Rollout → ℕ → CommandList → Command → Bool
pause_begins x r h c = makes Pauses r c || some_up_to (λ i. error_holds x r i (h ▸ c) && not (error_holds x r i h)) x.plan.groups.count

-- a pause began at some prefix, and no resume follows
abbrev pub is_paused : Rollout → ℕ → CommandList → Bool
is_paused x r (Make approval) = false
is_paused x r (h ▸ c) = pause_begins x r h c || (not (makes Resumes r c) && is_paused x r h)

abbrev pub is_rollout_started : ℕ → CommandList → Bool
is_rollout_started r (Make approval) = false
is_rollout_started r (h ▸ c) = is_rollout_started r h || makes Starts r c

-- group i + 1 is started in some prefix p, where `earlier p` says that group i is
abbrev pub next_started : Rollout → ℕ → ℕ → (CommandList → Bool) → CommandList → Bool
next_started x r i earlier (Make approval) = false
next_started x r i earlier (h ▸ c) =
    next_started x r i earlier h
    || (earlier (h ▸ c) && ((not (is_paused x r (h ▸ c)) && success_holds x r i (h ▸ c))
    || (makes Triggers r c && (earlier h && not (next_started x r i earlier h)))))

-- group i of the rollout is started. There are no groups but 1 to the plan's number
abbrev pub is_group_started : Rollout → ℕ → ℕ → CommandList → Bool
is_group_started x r zero h = false
is_group_started x r (suc zero) h = is_rollout_started r h
is_group_started x r (suc (suc i)) h = nat_lt (suc i) x.plan.groups.count && next_started x r (suc i) (is_group_started x r (suc i)) h
