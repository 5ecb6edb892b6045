-- Repeats, imports that come twice, and the command list without them.
use Rattle.rollout_machine.specs.Actions.{ActionPlace, action_place, history, outcome}
use Rattle.rollout_machine.specs.Answers.{answer}
use Rattle.rollout_machine.specs.Requests.{Asked}
use Rattle.rollout_machine.specs.ByteStrings.{same_bytes}
use Rattle.rollout_machine.specs.CommandList.{◌▸◌, Make, CommandList}
use Rattle.rollout_machine.specs.Commands.{PutTargets, TargetRow, Feedback, CancelFeedback, Command}
use Rattle.rollout_machine.specs.Records.{records}
use Rattle.rollout_machine.specs.Reports.{is_again}
use Rattle.rollout_machine.specs.Validity.{IsValid}
use Rattle.rollout_machine.specs.Verdicts.{verdict}
use Rattle.std.specs.Cmp.Lexicographic.{pointwise}
use Rattle.std.specs.Prelude.{◌≡◌, Bool, false, ◌&&◌, ◌||◌, cond, Option, Some, None, is_some}

-- the action has an outcome, or has heard this by its number
abbrev pub is_had : CommandList → Command → Option ActionPlace → Bool
is_had h c None = false
is_had h c (Some p) = is_some (outcome h p.rollout p.position) || is_again (history h p.rollout p.position) c

-- a feedback on an action that has an outcome before it, or that is sent again with its number
abbrev pub is_repeat : CommandList → Command → Bool
is_repeat h (Feedback feedback) = is_had h (Feedback feedback) (action_place h feedback.action)
is_repeat h (CancelFeedback feedback) = is_had h (CancelFeedback feedback) (action_place h feedback.action)
is_repeat h _ = false

abbrev pub same_row : TargetRow → TargetRow → Bool
same_row a b = same_bytes a.id b.id && (same_bytes a.name b.name && (same_bytes a.digest b.digest && pointwise same_bytes a.tags b.tags))

-- a PutTargets that directly follows an equal one
abbrev pub is_doubled : CommandList → Command → Bool
is_doubled (h ▸ PutTargets rows) (PutTargets more) = pointwise same_row rows more
is_doubled _ _ = false

-- the list without its repeats and doubled imports
abbrev pub without_repeats : CommandList → CommandList
without_repeats (Make approval) = Make approval
without_repeats (h ▸ c) = cond (is_repeat h c || is_doubled h c) (without_repeats h) (without_repeats h ▸ c)

-- repeats and doubled imports leave no trace: in the records, and so in the verdict on every command and in every answer
pub record IsTraceless (h : CommandList) : Type 0 where
  pub valid : IsValid (without_repeats h)
  pub same : records h ≡ records (without_repeats h)
  pub verdicts : (c : Command) → verdict h c ≡ verdict (without_repeats h) c
  pub answers : (asked : Asked) → answer h asked ≡ answer (without_repeats h) asked

abbrev pub RepeatsLeaveNoTrace : Type 0
RepeatsLeaveNoTrace = (h : CommandList) → IsValid h → IsTraceless h
