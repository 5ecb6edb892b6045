-- The state words of rollouts, groups, actions and targets, read from the records.
use Rattle.std.specs.Prelude.{ℕ, ◌+◌, Bool, ◌&&◌, not, cond, nat_eq, List, [], filter, fold, Option, Some, None, is_none}
use Rattle.std.specs.Option.{option_map_or, unwrap_or}
use Rattle.std.specs.List.{list_any, list_all, find}
use Rattle.rollout_machine.specs.ByteStrings.{item_numbered, same_bytes}
use Rattle.rollout_machine.specs.Commands.{Bytes, Good, Bad, Gone}
use Rattle.rollout_machine.specs.Counts.{reaches}
use Rattle.rollout_machine.specs.Groups.{size_of_bounds, holds_position}
use Rattle.rollout_machine.specs.Ranges.{is_some_and}
use Rattle.rollout_machine.specs.Records.{Approval, Waiting, Denied, Given, GroupRecord, RolloutRecord, ActionRecord, Records}
use Rattle.rollout_machine.specs.Rollouts.{rule_at}
pub use Rattle.rollout_model.specs.declared.rollout_word.RolloutWord.{RolloutWord}
pub use Rattle.rollout_model.specs.declared.rollout_word.RolloutWord.TheVariants.{ApprovalDenied, WaitingForApproval, Ready as ReadyRollout}
pub use Rattle.rollout_model.specs.declared.rollout_word.RolloutWord.TheVariants.{Finished as FinishedRollout, Paused as PausedRollout}
pub use Rattle.rollout_model.specs.declared.rollout_word.RolloutWord.TheVariants.{Running as RunningRollout}
pub use Rattle.rollout_model.specs.declared.group_word.GroupWord.{GroupWord}
pub use Rattle.rollout_model.specs.declared.group_word.GroupWord.TheVariants.{Ready as ReadyGroup, Scheduled as ScheduledGroup}
pub use Rattle.rollout_model.specs.declared.group_word.GroupWord.TheVariants.{Finished as FinishedGroup, Error as ErrorGroup, Running as RunningGroup}
pub use Rattle.rollout_model.specs.declared.action_word.ActionWord.{ActionWord}
pub use Rattle.rollout_model.specs.declared.action_word.ActionWord.TheVariants.{Finished as FinishedAction, Error as ErrorAction}
pub use Rattle.rollout_model.specs.declared.action_word.ActionWord.TheVariants.{Canceled as CanceledAction, Scheduled as ScheduledAction}
pub use Rattle.rollout_model.specs.declared.action_word.ActionWord.TheVariants.{Canceling as CancelingAction, Running as RunningAction}
pub use Rattle.rollout_model.specs.declared.target_word.TargetWord.{TargetWord}
pub use Rattle.rollout_model.specs.declared.target_word.TargetWord.TheVariants.{Unknown, Pending, InSync, Error as InError}

abbrev pub all_final : GroupRecord → Bool
all_final g = nat_eq (g.ok + g.bad + g.gone) (size_of_bounds g.bounds)

abbrev pub is_finished : RolloutRecord → Bool
is_finished x = list_all (λ (g : GroupRecord). g.started && all_final g) x.groups

-- the first that applies, by approval, whether it was started, finished and paused
abbrev pub word_from : Approval → Bool → Bool → Bool → RolloutWord
word_from Denied started finished paused = ApprovalDenied
word_from Waiting started finished paused = WaitingForApproval
word_from Given started finished paused = cond (not started) ReadyRollout (cond finished FinishedRollout (cond paused PausedRollout RunningRollout))

abbrev pub rollout_word : RolloutRecord → RolloutWord
rollout_word x = word_from x.approval x.started (is_finished x) x.paused

abbrev pub group_word : RolloutRecord → GroupRecord → GroupWord
group_word x g =
    cond (not x.started) ReadyGroup (cond (not g.started) ScheduledGroup
    (cond (all_final g) FinishedGroup (cond (reaches g.bad (size_of_bounds g.bounds) (rule_at x.plan g.number).error) ErrorGroup RunningGroup)))

abbrev pub group_numbered : ℕ → List GroupRecord → Option GroupRecord
group_numbered i gs = find (λ (g : GroupRecord). nat_eq g.number i) gs

-- the group of an action in its rollout: the one whose bounds hold the member's position
abbrev pub group_holding : ℕ → List GroupRecord → Option GroupRecord
group_holding j gs = find (λ (g : GroupRecord). holds_position j g.bounds) gs

abbrev pub group_number_of : RolloutRecord → ActionRecord → ℕ
group_number_of x a = option_map_or (λ (g : GroupRecord). g.number) (group_holding a.position x.groups) 0

-- the group of an action is started
abbrev pub has_started : Records → ActionRecord → Bool
has_started rs a =
    is_some_and (λ (x : RolloutRecord). is_some_and (λ (g : GroupRecord). g.started) (group_holding a.position x.groups))
    (item_numbered rs.rollouts a.rollout)

abbrev pub action_word : Records → ActionRecord → ActionWord
action_word rs a = elim a.outcome [
  | Some o ↦ elim o [ Good ↦ FinishedAction | Bad ↦ ErrorAction | Gone ↦ CanceledAction ]
  | None ↦ cond (not (has_started rs a)) ScheduledAction (cond a.canceling CancelingAction RunningAction)
]

abbrev pub member_at : Option RolloutRecord → ℕ → Bytes
member_at None j = []
member_at (Some x) j = unwrap_or (item_numbered x.members j) []

abbrev pub is_for : Records → Bytes → ActionRecord → Bool
is_for rs t a = same_bytes (member_at (item_numbered rs.rollouts a.rollout) a.position) t

abbrev pub started_actions_of : Records → Bytes → List ActionRecord
started_actions_of rs t = filter (λ a. is_for rs t a && has_started rs a) rs.actions

-- pending while one of these is open, and else as the last of them ended
abbrev pub target_word : Records → Bytes → TargetWord
target_word rs t =
    let started = started_actions_of rs t in
    cond (list_any (λ (a : ActionRecord). is_none a.outcome) started) Pending
    (fold (λ word a. elim a.outcome [ None ↦ Pending | Some o ↦ elim o [ Good ↦ InSync | Bad ↦ InError | Gone ↦ Unknown ] ]) Unknown started)
