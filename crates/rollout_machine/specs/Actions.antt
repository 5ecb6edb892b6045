-- The actions of a command list: their numbers, outcomes and cancels.
use Rattle.std.specs.Prelude.{ℕ, Bool, true, false, ◌&&◌, not, cond, nat_eq, List, [], ◌++◌, Option, Some, None, is_some, is_none}
use Rattle.std.specs.Option.{option_map_or, option_or}
use Rattle.rollout_machine.specs.ByteStrings.{item_numbered}
use Rattle.rollout_machine.specs.CommandList.{CommandList, Make, ◌▸◌}
use Rattle.rollout_machine.specs.Commands.{DeploymentWord, CancelWord, Succeeded, Failed, Rejected, Noted, ClosedCancel, CanceledCancel}
use Rattle.rollout_machine.specs.Commands.{RejectedCancel, NotedCancel, Command, Start, Cancel, Feedback, CancelFeedback}
use Rattle.rollout_machine.specs.Commands.{Outcome, Good, Bad, Gone}
use Rattle.rollout_machine.specs.Ranges.{each_from, is_some_and}
use Rattle.rollout_machine.specs.Rollouts.{Rollout, rollout_at, size_of}
use Rattle.rollout_machine.specs.Reports.{Reported, Said, OfDeployment, OfCancel, is_again, reported_by}

-- an action, by its rollout and its member's position, from 1
pub record ActionPlace : Type 0 where
  pub rollout : ℕ
  pub position : ℕ

-- a start adds one for each member, in their order
abbrev pub new_places : CommandList → Command → List ActionPlace
new_places h (Start r) = option_map_or (λ (x : Rollout). each_from (λ j. record { rollout = r; position = j }) 1 (size_of x)) (rollout_at h r) []
new_places h _ = []

-- the actions in the order of their numbers: each start numbers its members on from the last action
abbrev pub action_places : CommandList → List ActionPlace
action_places (Make approval) = []
action_places (h ▸ c) = action_places h ++ new_places h c

abbrev pub action_place : CommandList → ℕ → Option ActionPlace
action_place h a = item_numbered (action_places h) a

-- the action that a command is on
abbrev pub action_of : CommandList → Command → Option ActionPlace
action_of h (Cancel t a force) = action_place h a
action_of h (Feedback feedback) = action_place h feedback.action
action_of h (CancelFeedback feedback) = action_place h feedback.action
action_of h _ = None

abbrev pub is_on_action : CommandList → Command → ℕ → ℕ → Bool
is_on_action h c r j = is_some_and (λ (p : ActionPlace). nat_eq p.rollout r && nat_eq p.position j) (action_of h c)

-- what was reported on the action, without what was sent again
abbrev pub reports : CommandList → ℕ → ℕ → List Reported
reports (Make approval) r j = []
reports (h ▸ c) r j = reports h r j ++ cond (is_on_action h c r j && not (is_again (reports h r j) c)) (reported_by c) []

-- a command is on the action, and is no report that was sent again
abbrev pub is_heard : CommandList → Command → ℕ → ℕ → Bool
is_heard h c r j = is_on_action h c r j && not (is_again (reports h r j) c)

abbrev pub outcome_of_deployment : DeploymentWord → Option Outcome
outcome_of_deployment Succeeded = Some Good
outcome_of_deployment Failed = Some Bad
outcome_of_deployment Rejected = None
outcome_of_deployment (Noted p) = None

abbrev pub outcome_of_cancel : CancelWord → Option Outcome
outcome_of_cancel ClosedCancel = Some Gone
outcome_of_cancel CanceledCancel = Some Gone
outcome_of_cancel RejectedCancel = None
outcome_of_cancel (NotedCancel p) = None

-- the outcome that a device's words give, if they give one
abbrev pub outcome_said : Said → Option Outcome
outcome_said (OfDeployment word) = outcome_of_deployment word
outcome_said (OfCancel word) = outcome_of_cancel word

-- the outcome that a command on an open action gives it, where it is canceling or not
abbrev pub outcome_given : Command → Bool → Option Outcome
outcome_given (Feedback feedback) canceling = outcome_of_deployment feedback.word
outcome_given (CancelFeedback feedback) canceling = outcome_of_cancel feedback.word
outcome_given (Cancel t a force) canceling = cond (force && canceling) (Some Gone) None
outcome_given _ canceling = None

-- what a command on an action says of its canceling
abbrev pub cancel_standing_said : Command → Option Bool
cancel_standing_said (Cancel t a force) = Some true
cancel_standing_said (CancelFeedback feedback) = elim (feedback.word) [ RejectedCancel ↦ Some false | _ ↦ None ]
cancel_standing_said _ = None

-- the last heard among the action's cancels and its rejections of one is a cancel
abbrev pub cancel_stands : CommandList → ℕ → ℕ → Bool
cancel_stands (Make approval) r j = false
cancel_stands (h ▸ c) r j = cond (is_heard h c r j && is_some (cancel_standing_said c))
    (elim (cancel_standing_said c) [ None ↦ false | Some b ↦ b ]) (cancel_stands h r j)

-- the outcome by the first command heard on the action that gives one
abbrev pub outcome : CommandList → ℕ → ℕ → Option Outcome
outcome (Make approval) r j = None
outcome (h ▸ c) r j = option_or (outcome h r j) (cond (is_heard h c r j) (outcome_given c (is_none (outcome h r j) && cancel_stands h r j)) None)

abbrev pub is_canceling : CommandList → ℕ → ℕ → Bool
is_canceling h r j = is_none (outcome h r j) && cancel_stands h r j

-- what was reported on the action up to and with what gave the outcome
abbrev pub history : CommandList → ℕ → ℕ → List Reported
history (Make approval) r j = []
history (h ▸ c) r j = history h r j ++ cond (is_heard h c r j && is_none (outcome h r j)) (reported_by c) []
