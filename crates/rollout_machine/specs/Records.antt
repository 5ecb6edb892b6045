-- The records of a desk as one finite value, and what they are at a command list.
use Rattle.std.specs.Prelude.{ℕ, Bool, true, false, cond, nat_eq, List, [], ◌∷◌, ◌++◌, map, length, Option, Some, None}
use Rattle.std.specs.Option.{option_or}
use Rattle.rollout_machine.specs.Actions.{ActionPlace, action_places, outcome, is_canceling, history}
use Rattle.rollout_machine.specs.CommandList.{CommandList, Make, ◌▸◌}
use Rattle.rollout_machine.specs.Commands.{Bytes, ModuleLabel, SetLabel, Upload, AddModule, AddArtifact, AddSet, Approve, Deny}
use Rattle.rollout_machine.specs.Commands.{Good, Bad, Gone}
use Rattle.rollout_machine.specs.Counts.{tally}
use Rattle.rollout_machine.specs.Digests.{digest_of}
use Rattle.rollout_machine.specs.Progress.{is_paused, is_group_started, is_rollout_started}
use Rattle.rollout_machine.specs.Ranges.{each_from, numbered}
use Rattle.rollout_machine.specs.Rollouts.{Rollout, rollouts, bounds_in}
use Rattle.rollout_machine.specs.Targets.{Target, targets}
pub use Rattle.rollout_machine.specs.declared.records.GroupRecord.{GroupRecord}
pub use Rattle.rollout_machine.specs.declared.records.RolloutRecord.{RolloutRecord}
pub use Rattle.rollout_machine.specs.declared.records.ActionRecord.{ActionRecord}
pub use Rattle.rollout_model.specs.declared.approval.Approval.{Approval}
pub use Rattle.rollout_model.specs.declared.approval.Approval.TheVariants.{Waiting, Denied, Given}

-- what is kept of an artifact: whether its request named a digest, and which, is no part of it
pub record ArtifactRecord : Type 0 where
  pub module_number : ℕ
  pub filename : Bytes
  pub size : ℕ
  pub digest : Bytes
  pub contents : Bytes

pub record Records : Type 0 where
  pub approval : Bool
  pub modules : List ModuleLabel
  pub artifacts : List ArtifactRecord
  pub sets : List SetLabel
  pub targets : List Target
  pub rollouts : List RolloutRecord
  pub actions : List ActionRecord

-- ---- the records of a command list

abbrev pub needs_approval : CommandList → Bool
needs_approval (Make approval) = approval
needs_approval (h ▸ c) = needs_approval h

abbrev pub modules : CommandList → List ModuleLabel
modules (Make approval) = []
modules (h ▸ c) = modules h ++ elim c [ AddModule label ↦ label ∷ [] | _ ↦ [] ]

abbrev pub artifact_from : Upload → ArtifactRecord
artifact_from u = record {
  module_number = u.module_number;
  filename = u.filename;
  size = length u.contents;
  digest = digest_of u.contents;
  contents = u.contents;
}

abbrev pub artifacts : CommandList → List ArtifactRecord
artifacts (Make approval) = []
artifacts (h ▸ c) = artifacts h ++ elim c [ AddArtifact upload ↦ artifact_from upload ∷ [] | _ ↦ [] ]

abbrev pub sets : CommandList → List SetLabel
sets (Make approval) = []
sets (h ▸ c) = sets h ++ elim c [ AddSet label ↦ label ∷ [] | _ ↦ [] ]

-- approved or denied
abbrev pub decided : ℕ → CommandList → Option Bool
decided r (Make approval) = None
decided r (h ▸ c) = option_or (decided r h) (elim c [
  | Approve q ↦ cond (nat_eq q r) (Some true) None
  | Deny q ↦ cond (nat_eq q r) (Some false) None
  | _ ↦ None
])

abbrev pub approval_of : ℕ → CommandList → Approval
approval_of r h = cond (needs_approval h) (elim (decided r h) [ None ↦ Waiting | Some b ↦ cond b Given Denied ]) Given

abbrev pub group_in : Rollout → ℕ → CommandList → ℕ → GroupRecord
group_in x r h i = record {
  number = i;
  bounds = bounds_in x i;
  started = is_group_started x r i h;
  ok = tally Good x r i h;
  bad = tally Bad x r i h;
  gone = tally Gone x r i h;
}

abbrev pub rollout_in : CommandList → ℕ → Rollout → RolloutRecord
rollout_in h r x = record {
  number = r;
  plan = x.plan;
  members = x.members;
  approval = approval_of r h;
  started = is_rollout_started r h;
  paused = is_paused x r h;
  groups = each_from (group_in x r h) 1 x.plan.groups.count;
}

abbrev pub action_in : CommandList → ActionPlace → ActionRecord
action_in h p = record {
  rollout = p.rollout;
  position = p.position;
  canceling = is_canceling h p.rollout p.position;
  outcome = outcome h p.rollout p.position;
  history = history h p.rollout p.position;
}

unfoldable pub records : CommandList → Records
records h = record {
  approval = needs_approval h;
  modules = modules h;
  artifacts = artifacts h;
  sets = sets h;
  targets = targets h;
  rollouts = numbered (rollout_in h) 1 (rollouts h);
  actions = map (action_in h) (action_places h);
}
