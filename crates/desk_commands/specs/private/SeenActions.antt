-- An action as a command on it finds it: with its group and its rollout.
use Rattle.std.specs.Prelude.{◌≡◌, ℕ, Bool, ◌&&◌, not, cond, Option, Some, None}
use Rattle.std.specs.List.{zip}
use Rattle.std.specs.Option.{is_none}
use Rattle.rollout_machine.specs.ByteStrings.{item_numbered, same_bytes}
use Rattle.rollout_machine.specs.Commands.{Bytes, Credential}
use Rattle.rollout_machine.specs.GroupRules.{GroupRule}
use Rattle.rollout_machine.specs.Records.{Records}
use Rattle.rollout_machine.specs.Reports.{Reported}
use Rattle.rollout_machine.specs.declared.standing.Standing.{Standing}
use Rattle.rollout_machine.specs.Verdicts.{is_known, target_of}
use Rattle.rollout_machine.specs.declared.records.ActionRecord.{ActionRecord}
use Rattle.rollout_machine.specs.declared.records.GroupRecord.{GroupRecord}
use Rattle.rollout_machine.specs.declared.records.RolloutRecord.{RolloutRecord}
use Rattle.campaign_core.specs.OwnGroups.{waits}
use Rattle.campaign_core.specs.declared.own_group.OwnView.{OwnView}
use Rattle.campaign_core.specs.declared.rollout_checks.actions.ActionView.{ActionView}
use Rattle.campaign_core.specs.declared.rollout_checks.actions.CancelView.{CancelView}
use Rattle.campaign_core.specs.declared.rollout_checks.of_devices.DeviceAction.{DeviceAction}
use Rattle.desk_records.specs.Actions.{Tally}
use Rattle.desk_records.specs.Holds.{Ledger, ledger_of}
use Rattle.desk_records.specs.RolloutRow.{stored_action, stored_rollout}
use Rattle.desk_records.specs.Rollouts.{groups_of, rule_numbered}
use Rattle.desk_reads.specs.AtLists.{AreOfList}
use Rattle.desk_store.specs.GroupPairs.{group_and_next}
use Rattle.desk_records.specs.declared.rollout_row.StoredAction.{StoredAction}
use Rattle.desk_records.specs.declared.rollout_row.StoredRollout.{StoredRollout}
use Rattle.desk_commands.specs.private.GroupViews.{view_by}
use Rattle.desk_commands.specs.private.SeenReports.{StandsAt, asked}
use Rattle.desk_commands.specs.declared.seen_actions.SeenAction.{SeenAction}
use Rattle.desk_commands.specs.declared.seen_actions.SeenFeedback.{SeenFeedback}

-- the rollout, seen from this one of its groups, of which this is said, and the one behind it
abbrev pub own_seen : StoredRollout → GroupRule → GroupRecord → Option GroupRecord → OwnView
own_seen x rule own next = record { paused = x.paused; own = view_by rule own.number (Some own); next_waits = own.started && waits next }

abbrev pub action_seen : ℕ → StoredAction → StoredRollout → GroupRule → GroupRecord → Option GroupRecord → SeenAction
action_seen k action x rule own next = record {
  number = k;
  action = action;
  approval = x.approval;
  started = x.started;
  own = own;
  next = next;
  rollout = own_seen x rule own next;
}

-- its rollout and its group are there, with what is said of the group, and it is seen with them
pub record SeesIn (l : Ledger) (k : ℕ) (action : StoredAction) (seen : SeenAction) : Type 0 where
  pub rollout : RolloutRecord
  pub is_its : item_numbered l.records.rollouts action.rollout ≡ Some rollout
  pub own : GroupRecord
  pub next : Option GroupRecord
  pub holds : group_and_next action.position (groups_of (Some rollout)) ≡ record { group = Some own; next = next }
  pub rule : GroupRule
  pub is_said : rule_numbered l.rules action.rollout own.number ≡ Some rule
  pub seen_is : seen ≡ action_seen k action (stored_rollout rollout) rule own next

-- action k is there and is seen so
pub record IsSeen (l : Ledger) (k : ℕ) (seen : SeenAction) : Type 0 where
  pub action : ActionRecord × Tally
  pub is_there : item_numbered (zip l.records.actions l.tallies) k ≡ Some action
  pub sees : SeesIn l k (stored_action l.records.rollouts action) seen

-- .. or there is none
abbrev pub MaySee : ℕ → Ledger → Option SeenAction → Type 0
MaySee k l None = item_numbered (zip l.records.actions l.tallies) k ≡ None
MaySee k l (Some seen) = IsSeen l k seen

abbrev pub seen_if : Bool → SeenAction → Option SeenAction
seen_if b seen = cond b (Some seen) None

-- where it is of this target
abbrev pub only_of : Bytes → Option SeenAction → Option SeenAction
only_of id None = None
only_of id (Some seen) = seen_if (same_bytes seen.action.target id) seen

-- where its group is started
abbrev pub only_started : Option SeenAction → Option SeenAction
only_started None = None
only_started (Some seen) = seen_if seen.own.started seen

-- The device, action k where it is the device's and its group is started, and how the report stands among what that has heard.
pub record SeesFeedback (device : Credential) (k : ℕ) (new : Reported) (r : Records) (seen : SeenFeedback) : Type 0 where
  pub misses_device : seen.misses_device ≡ not (is_known r device)
  pub found : Option SeenAction
  pub sees : MaySee k (ledger_of r) found
  pub action : seen.action ≡ only_started (only_of device.id found)
  pub report : AreOfList r → StandsAt k (asked seen.action new) r seen.report

-- action k, where it is of the target, and the target is there
pub record SeesTarget (id : Bytes) (k : ℕ) (r : Records) (seen : Option SeenAction) : Type 0 where
  pub found : Option SeenAction
  pub sees : MaySee k (ledger_of r) found
  pub action : seen ≡ cond (is_none (target_of r id)) None (only_of id found)

-- ---- views

abbrev pub action_view_seen : SeenAction → ActionView
action_view_seen seen = record { outcome = seen.action.outcome; canceling = seen.action.canceling; number = seen.action.rollout; rollout = seen.rollout }

abbrev pub cancel_view_seen : SeenAction → CancelView
cancel_view_seen seen = record { started = seen.own.started; action = action_view_seen seen }

abbrev pub device_action_seen : Standing → SeenAction → DeviceAction
device_action_seen standing seen = record { notes = seen.action.notes; standing = standing; action = action_view_seen seen }
