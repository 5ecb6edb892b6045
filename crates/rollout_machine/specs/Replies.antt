-- The replies of a desk as pure values, with the objects that they show.
use Rattle.std.specs.Prelude.{ℕ, List, Option}
use Rattle.rollout_machine.specs.Commands.{Bytes, ModuleLabel, Attribute}
use Rattle.rollout_machine.specs.Offers.{Offer}
use Rattle.rollout_model.specs.declared.refusal.Refusal.{Refusal}
pub use Rattle.rollout_model.specs.declared.artifact.Artifact.{Artifact}
pub use Rattle.rollout_model.specs.declared.module.Module.{Module}
pub use Rattle.rollout_model.specs.declared.distribution_set.DistributionSet.{DistributionSet}
pub use Rattle.rollout_model.specs.declared.rollout.Rollout.{Rollout as ShownRollout}
pub use Rattle.rollout_model.specs.declared.rollout.Group.{Group as ShownGroup}
pub use Rattle.rollout_model.specs.declared.rollout.Action.{Action as ShownAction}
pub use Rattle.rollout_model.specs.declared.rollout.NumberedEntry.{NumberedEntry as ShownEntry}
use Rattle.rollout_machine.specs.StateWords.{TargetWord}

-- a target without its token's digest
pub record ShownTarget : Type 0 where
  pub id : Bytes
  pub name : Bytes
  pub tags : List Bytes
  pub attributes : List Attribute
  pub word : TargetWord

-- a module of a deployment with its artifacts
pub record Chunk : Type 0 where
  pub module_number : ℕ
  pub label : ModuleLabel
  pub artifacts : List Artifact

-- what a target is to install, by which action
pub record Deployment : Type 0 where
  pub target : Bytes
  pub action : ℕ
  pub chunks : List Chunk

-- a part of a list, and how many entries the whole has
pub record PageOf (X : Type 0) : Type 0 where
  pub content : List X
  pub total : ℕ

-- a rollout with all its groups
pub record Report : Type 0 where
  pub rollout : ShownRollout
  pub groups : List ShownGroup

pub data Reply : Type 0 where
  Refused : Refusal → Reply
  -- of commands: those that name no other reply are done
  Done : Reply
  ModuleAdded : Module → Reply
  ArtifactAdded : Artifact → Reply
  SetAdded : DistributionSet → Reply
  TargetsPut : (accepted : ℕ) → Reply
  RolloutAdded : ShownRollout → Reply
  -- of queries
  PollShown : (target : Bytes) → Option Offer → Reply
  DeploymentShown : Deployment → Reply
  CancelShown : (action : ℕ) → Reply
  ContentsShown : Bytes → Reply
  TargetsShown : PageOf ShownTarget → Reply
  TargetShown : ShownTarget → Reply
  ActionsShown : PageOf ShownAction → Reply
  ActionShown : ShownAction → Reply
  HistoryShown : PageOf ShownEntry → Reply
  ModulesShown : PageOf Module → Reply
  ModuleShown : Module → Reply
  ArtifactsShown : PageOf Artifact → Reply
  ArtifactShown : Artifact → Reply
  SetsShown : PageOf DistributionSet → Reply
  SetShown : DistributionSet → Reply
  RolloutsShown : PageOf ShownRollout → Reply
  RolloutShown : ShownRollout → Reply
  GroupsShown : PageOf ShownGroup → Reply
  GroupShown : ShownGroup → Reply
  ReportShown : Report → Reply
  ActionsTableShown : List ShownAction → Reply
