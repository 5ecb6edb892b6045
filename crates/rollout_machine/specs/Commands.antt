-- The commands of a desk as pure values.
use Rattle.std.specs.Prelude.{ℕ, Bool, List}
pub use Rattle.rollout_model.specs.declared.module.ModuleLabel.{ModuleLabel}
pub use Rattle.rollout_model.specs.declared.artifact.Upload.{Upload}
pub use Rattle.rollout_model.specs.declared.distribution_set.SetLabel.{SetLabel}
pub use Rattle.rollout_model.specs.declared.target.Attribute.{Attribute}
pub use Rattle.rollout_model.specs.declared.target_row.TargetRow.{TargetRow}
pub use Rattle.rollout_model.specs.declared.credential.Credential.{Credential}
pub use Rattle.rollout_model.specs.declared.rollout_plan.RolloutPlan.{RolloutPlan}
pub use Rattle.rollout_model.specs.declared.feedback.NoteWord.{NoteWord}
pub use Rattle.rollout_model.specs.declared.feedback.NoteWord.TheVariants.{Proceeding, Scheduled, Resumed}
pub use Rattle.rollout_model.specs.declared.feedback.DeploymentWord.{DeploymentWord}
pub use Rattle.rollout_model.specs.declared.feedback.DeploymentWord.TheVariants.{Succeeded, Failed, Rejected, Noted}
pub use Rattle.rollout_model.specs.declared.feedback.CancelWord.{CancelWord}
pub use Rattle.rollout_model.specs.declared.feedback.CancelWord.TheVariants.{Closed as ClosedCancel, Canceled as CanceledCancel}
pub use Rattle.rollout_model.specs.declared.feedback.CancelWord.TheVariants.{Rejected as RejectedCancel, Noted as NotedCancel}
pub use Rattle.rollout_model.specs.declared.feedback.DeviceFeedback.{DeviceFeedback}
pub use Rattle.rollout_machine.specs.declared.outcome.Outcome.{Outcome}
pub use Rattle.rollout_machine.specs.declared.outcome.Outcome.TheVariants.{Good, Bad, Gone}

-- a text, a word, a token's digest or a file, by its bytes
abbrev pub Bytes : Type 0
Bytes = List ℕ

pub data Command : Type 0 where
  AddModule : ModuleLabel → Command
  AddArtifact : Upload → Command
  AddSet : SetLabel → Command
  PutTargets : List TargetRow → Command
  Tag : (target : Bytes) (tag : Bytes) → Command
  Untag : (target : Bytes) (tag : Bytes) → Command
  PutAttributes : Credential → List Attribute → Command
  CreateRollout : RolloutPlan → Command
  Approve : (rollout : ℕ) → Command
  Deny : (rollout : ℕ) → Command
  Start : (rollout : ℕ) → Command
  Pause : (rollout : ℕ) → Command
  Resume : (rollout : ℕ) → Command
  TriggerNext : (rollout : ℕ) → Command
  Cancel : (target : Bytes) (action : ℕ) (force : Bool) → Command
  Feedback : DeviceFeedback DeploymentWord → Command
  CancelFeedback : DeviceFeedback CancelWord → Command
