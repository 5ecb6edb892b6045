-- How much a command makes a desk's store do.
use Rattle.std.specs.Prelude.{◌≡◌, ◌≤◌, ◌+◌, ℕ, Bool, true, false, Option, Some, None, IfSome, length}
use Rattle.rollout_machine.specs.Commands.{AddModule, AddSet, Approve, Cancel, CancelFeedback, Command, Deny, Feedback, Pause, Resume, Start, Tag, TriggerNext}
use Rattle.rollout_machine.specs.Commands.{Untag}

-- a device gives feedback, on a deployment or on its cancel
abbrev pub is_feedback : Command → Bool
is_feedback (Feedback feedback) = true
is_feedback (CancelFeedback feedback) = true
is_feedback _ = false

-- how many statements a command runs at most; of one that goes row by row, piece by piece or member by member nothing is said
abbrev pub statements_most : Command → Option ℕ
statements_most (AddModule label) = Some 4
statements_most (AddSet label) = Some (4 + length label.modules)
statements_most (Tag target tag) = Some 3
statements_most (Untag target tag) = Some 2
statements_most (Approve rollout) = Some 3
statements_most (Deny rollout) = Some 3
statements_most (Pause rollout) = Some 3
statements_most (Start rollout) = Some 7
statements_most (Resume rollout) = Some 6
statements_most (TriggerNext rollout) = Some 6
statements_most (Cancel target action force) = Some 12
statements_most (Feedback feedback) = Some 14
statements_most (CancelFeedback feedback) = Some 14
statements_most _ = None

-- a command keeps to that, and feedback takes at most 24 rows
pub record KeepsBound (c : Command) (statements rows : ℕ) : Type 0 where
  pub run : IfSome (statements_most c) (λ most. statements ≤ most)
  pub taken : is_feedback c ≡ true → rows ≤ 24
