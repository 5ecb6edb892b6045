-- The kinds of records that are stored at every schema, and the counts of groups, found again from them.
use Rattle.rollout_machine.specs.Commands.{Bytes, RolloutPlan, SetLabel, ModuleLabel, Outcome, Good, Bad, Gone}
use Rattle.rollout_machine.specs.Counts.{is_outcome}
use Rattle.rollout_machine.specs.Groups.{holds_position}
use Rattle.rollout_machine.specs.Offers.{Offer}
use Rattle.rollout_machine.specs.Records.{ArtifactRecord, GroupRecord, Approval, ActionRecord, Records, RolloutRecord}
use Rattle.rollout_machine.specs.Targets.{Target}
use Rattle.std.specs.Prelude.{ℕ, ◌+◌, ◌&&◌, cond, nat_eq, Bool, List, [], ◌∷◌, map, Option, Some, None}
use Rattle.rollout_machine.specs.declared.bounds.Bounds.{Bounds}

pub record StoredGroup : Type 0 where
  pub number : ℕ
  pub bounds : Bounds
  pub started : Bool

pub record StoredRollout : Type 0 where
  pub number : ℕ
  pub plan : RolloutPlan
  pub members : List Bytes
  pub approval : Approval
  pub started : Bool
  pub paused : Bool
  pub groups : List StoredGroup

pub record StoredRecords : Type 0 where
  pub approval : Bool
  pub modules : List ModuleLabel
  pub artifacts : List ArtifactRecord
  pub sets : List SetLabel
  pub targets : List Target
  pub rollouts : List StoredRollout
  pub actions : List ActionRecord

abbrev pub uncounted_group : GroupRecord → StoredGroup
uncounted_group g = record { number = g.number; bounds = g.bounds; started = g.started }

abbrev pub uncounted_rollout : RolloutRecord → StoredRollout
uncounted_rollout x = record {
  number = x.number;
  plan = x.plan;
  members = x.members;
  approval = x.approval;
  started = x.started;
  paused = x.paused;
  groups = map uncounted_group x.groups;
}

-- the records without the counts of groups. They alone are what a desk of version 0 holds
abbrev pub uncounted_records : Records → StoredRecords
uncounted_records rs = record {
  approval = rs.approval;
  modules = rs.modules;
  artifacts = rs.artifacts;
  sets = rs.sets;
  targets = rs.targets;
  rollouts = map uncounted_rollout rs.rollouts;
  actions = rs.actions;
}

-- ---- the counts, found again in the actions

-- how many of these actions are of rollout r and between the bounds, with this outcome
abbrev pub count_actions : Outcome → ℕ → Bounds → List ActionRecord → ℕ
count_actions o r b [] = 0
count_actions o r b (a ∷ as') = count_actions o r b as' + cond (nat_eq a.rollout r && (holds_position a.position b && is_outcome o a.outcome)) 1 0

abbrev pub counted_group : List ActionRecord → ℕ → StoredGroup → GroupRecord
counted_group actions r g = record {
  number = g.number;
  bounds = g.bounds;
  started = g.started;
  ok = count_actions Good r g.bounds actions;
  bad = count_actions Bad r g.bounds actions;
  gone = count_actions Gone r g.bounds actions;
}

abbrev pub counted_rollout : List ActionRecord → StoredRollout → RolloutRecord
counted_rollout actions x = record {
  number = x.number;
  plan = x.plan;
  members = x.members;
  approval = x.approval;
  started = x.started;
  paused = x.paused;
  groups = map (counted_group actions x.number) x.groups;
}

-- the records by the stored kinds alone
abbrev pub recounted : StoredRecords → Records
recounted ss = record {
  approval = ss.approval;
  modules = ss.modules;
  artifacts = ss.artifacts;
  sets = ss.sets;
  targets = ss.targets;
  rollouts = map (counted_rollout ss.actions) ss.rollouts;
  actions = ss.actions;
}

-- ---- the offer of a target

pub record TargetOffer : Type 0 where
  pub target : Bytes
  pub offer : Offer

abbrev pub offer_to : Bytes → Option Offer → List TargetOffer
offer_to t None = []
offer_to t (Some o) = record { target = t; offer = o } ∷ []
