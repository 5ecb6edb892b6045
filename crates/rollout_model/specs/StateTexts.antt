-- The words of states as they are printed.
use Rattle.std.specs.Prelude.{ℕ, List, codes}
use Rattle.rollout_model.specs.declared.rollout_word.RolloutWord.{RolloutWord}
use Rattle.rollout_model.specs.declared.rollout_word.RolloutWord.TheVariants as rollout
use Rattle.rollout_model.specs.declared.group_word.GroupWord.{GroupWord}
use Rattle.rollout_model.specs.declared.group_word.GroupWord.TheVariants as group
use Rattle.rollout_model.specs.declared.action_word.ActionWord.{ActionWord}
use Rattle.rollout_model.specs.declared.action_word.ActionWord.TheVariants as action
use Rattle.rollout_model.specs.declared.target_word.TargetWord.{TargetWord}
use Rattle.rollout_model.specs.declared.target_word.TargetWord.TheVariants.{Unknown, Pending, InSync, Error}

abbrev pub rollout_text : RolloutWord → List ℕ
rollout_text rollout.ApprovalDenied = codes "approval_denied"
rollout_text rollout.WaitingForApproval = codes "waiting_for_approval"
rollout_text rollout.Ready = codes "ready"
rollout_text rollout.Finished = codes "finished"
rollout_text rollout.Paused = codes "paused"
rollout_text rollout.Running = codes "running"

abbrev pub group_text : GroupWord → List ℕ
group_text group.Ready = codes "ready"
group_text group.Scheduled = codes "scheduled"
group_text group.Finished = codes "finished"
group_text group.Error = codes "error"
group_text group.Running = codes "running"

abbrev pub action_text : ActionWord → List ℕ
action_text action.Finished = codes "finished"
action_text action.Error = codes "error"
action_text action.Canceled = codes "canceled"
action_text action.Scheduled = codes "scheduled"
action_text action.Canceling = codes "canceling"
action_text action.Running = codes "running"

abbrev pub target_text : TargetWord → List ℕ
target_text Unknown = codes "unknown"
target_text Pending = codes "pending"
target_text InSync = codes "in_sync"
target_text Error = codes "error"
