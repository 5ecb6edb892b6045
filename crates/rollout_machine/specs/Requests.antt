-- What can be asked of a desk: its commands, its queries, and what a message asks.
use Rattle.std.specs.Prelude.{ℕ, Option}
use Rattle.rollout_machine.specs.Commands.{Bytes, Command, Credential}
pub use Rattle.rollout_model.specs.declared.page.Page.{Page}
use Rattle.rollout_model.specs.declared.refusal.Refusal.{Refusal}

pub data Query : Type 0 where
  -- of a device
  Poll : Credential → Query
  ShowDeployment : Credential → (action : ℕ) → Query
  ShowCancel : Credential → (action : ℕ) → Query
  Download : Credential → (module_number : ℕ) → (filename : Bytes) → Query
  -- of the management
  ShowTargets : (filter_text : Option Bytes) → Page → Query
  ShowTarget : (target : Bytes) → Query
  ShowTargetActions : (target : Bytes) → Page → Query
  ShowAction : (target : Bytes) → (action : ℕ) → Query
  ShowHistory : (target : Bytes) → (action : ℕ) → Page → Query
  ShowModules : Page → Query
  ShowModule : (number : ℕ) → Query
  ShowArtifacts : (module_number : ℕ) → Page → Query
  ShowArtifact : (module_number : ℕ) → (artifact : ℕ) → Query
  ShowContents : (module_number : ℕ) → (artifact : ℕ) → Query
  ShowSets : Page → Query
  ShowSet : (number : ℕ) → Query
  ShowRollouts : Page → Query
  ShowRollout : (number : ℕ) → Query
  ShowGroups : (rollout : ℕ) → Page → Query
  ShowGroup : (rollout : ℕ) → (group : ℕ) → Query
  ShowGroupTargets : (rollout : ℕ) → (group : ℕ) → Page → Query
  ShowReport : (rollout : ℕ) → Query
  ShowActionsTable : (rollout : ℕ) → Query

pub data Request : Type 0 where
  Do : Command → Request
  Ask : Query → Request

-- what a message asks, by its route and its form: it may be refused before any record is looked at
pub data Asked : Type 0 where
  Rejected : Refusal → Asked
  Asks : Request → Asked
