-- What a desk answers, and which command the answer appends.
use Rattle.std.specs.Prelude.{◌≡◌, ◌≢◌, ◌⊎◌, ℕ, Bool, true, false, ◌&&◌, not, cond, nat_eq, List, [], map, filter, flat_map, length, Option, Some, None}
use Rattle.std.specs.Option.{option_and_then, option_map_or, option_to_list}
use Rattle.std.specs.List.{list_any, find}
use Rattle.rollout_machine.specs.ByteStrings.{item_numbered, same_bytes}
use Rattle.rollout_machine.specs.CommandList.{CommandList, ◌▸◌}
use Rattle.rollout_machine.specs.Commands.{Bytes, Credential, ModuleLabel, SetLabel, Command, AddModule, AddArtifact, AddSet, PutTargets, CreateRollout}
use Rattle.rollout_machine.specs.Filters.{matches}
use Rattle.target_filter.specs.Profile.{filter_of}
use Rattle.rollout_machine.specs.Objects.{actions_of_target, actions_where, action_shown, artifact_shown, artifacts_shown, chunks_of}
use Rattle.rollout_machine.specs.Objects.{entry_shown, group_shown, members_in, module_shown, modules_of_action}
use Rattle.rollout_machine.specs.Objects.{page_of, report_of, rollout_shown, set_shown, target_shown}
use Rattle.rollout_machine.specs.Ranges.{numbered}
use Rattle.rollout_machine.specs.Offers.{Offer, offer}
use Rattle.rollout_machine.specs.Records.{ArtifactRecord, RolloutRecord, ActionRecord, Records, records}
use Rattle.rollout_model.specs.declared.refusal.Refusal.TheVariants.{Unauthorized, NotFound, BadFilter, NoMemory, StoreFailed}
use Rattle.rollout_machine.specs.Replies.{Reply, Refused, Done, ModuleAdded, ArtifactAdded, SetAdded, TargetsPut, RolloutAdded, PollShown}
use Rattle.rollout_machine.specs.Replies.{DeploymentShown, CancelShown, ContentsShown, TargetsShown, TargetShown, ActionsShown, ActionShown}
use Rattle.rollout_machine.specs.Replies.{HistoryShown, ModulesShown, ModuleShown, ArtifactsShown, ArtifactShown, SetsShown, SetShown, RolloutsShown}
use Rattle.rollout_machine.specs.Replies.{RolloutShown, GroupsShown, GroupShown, ReportShown, ActionsTableShown}
use Rattle.rollout_machine.specs.Requests.{Page, Query, Poll, ShowDeployment, ShowCancel, Download, ShowTargets, ShowTarget, ShowTargetActions}
use Rattle.rollout_machine.specs.Requests.{ShowAction, ShowHistory, ShowModules, ShowModule, ShowArtifacts, ShowArtifact, ShowContents, ShowSets}
use Rattle.rollout_machine.specs.Requests.{ShowSet, ShowRollouts, ShowRollout, ShowGroups, ShowGroup, ShowGroupTargets, ShowReport, ShowActionsTable}
use Rattle.rollout_machine.specs.Requests.{Do, Ask, Asked, Rejected, Asks}
use Rattle.rollout_machine.specs.StateWords.{group_numbered, is_for}
use Rattle.rollout_machine.specs.Targets.{Target}
use Rattle.rollout_machine.specs.Verdicts.{is_known, target_of, verdict}

-- ---- queries

-- what isn't there is not found
abbrev pub if_found : {X : Type 0} → (X → Reply) → Option X → Reply
if_found reply None = Refused NotFound
if_found reply (Some x) = reply x

abbrev pub for_device : Records → Credential → Reply → Reply
for_device rs device reply = cond (is_known rs device) reply (Refused Unauthorized)

-- whether this action is offered, as a cancel or as a deployment
abbrev pub is_offer_of : ℕ → Bool → Option Offer → Bool
is_offer_of k canceling None = false
is_offer_of k canceling (Some o) = nat_eq o.action k && cond canceling o.canceling (not o.canceling)

-- the modules of what is offered as a deployment
abbrev pub modules_offered : Records → Option Offer → List ℕ
modules_offered rs None = []
modules_offered rs (Some o) = cond o.canceling [] (modules_of_action rs (item_numbered rs.actions o.action))

-- the artifact of this name in this module
abbrev pub artifact_named : ℕ → Bytes → List ArtifactRecord → Option ArtifactRecord
artifact_named m filename artifacts = find (λ (a : ArtifactRecord). nat_eq a.module_number m && same_bytes a.filename filename) artifacts

-- a device downloads artifacts of what it is offered as a deployment, and no others
abbrev pub download : Records → Bytes → ℕ → Bytes → Reply
download rs t m filename =
    cond (list_any (λ n. nat_eq n m) (modules_offered rs (offer rs t)))
    (if_found (λ (a : ArtifactRecord). ContentsShown a.contents) (artifact_named m filename rs.artifacts)) (Refused NotFound)

abbrev pub targets_reply : Records → Page → Option Bytes → Reply
targets_reply rs page None = TargetsShown (page_of page (map (target_shown rs) rs.targets))
targets_reply rs page (Some text) =
    option_map_or (λ f. TargetsShown (page_of page (map (target_shown rs) (filter (matches f) rs.targets)))) (filter_of text) (Refused BadFilter)

-- an action by its number, where it is one of the target's
abbrev pub action_of_target : Records → Bytes → ℕ → Option ActionRecord
action_of_target rs t k = option_and_then (λ a. cond (is_for rs t a) (Some a) None) (item_numbered rs.actions k)

-- an artifact by its number, where it is one of the module's
abbrev pub artifact_of_module : Records → ℕ → ℕ → Option ArtifactRecord
artifact_of_module rs m k = option_and_then (λ (a : ArtifactRecord). cond (nat_eq a.module_number m) (Some a) None) (item_numbered rs.artifacts k)

-- the targets of these ids
abbrev pub targets_of : Records → List Bytes → List Target
targets_of rs ts = flat_map (λ t. option_to_list (target_of rs t)) ts

-- the answer to a query by the records
abbrev pub query_reply : Records → Query → Reply
query_reply rs (Poll device) = for_device rs device (PollShown device.id (offer rs device.id))
query_reply rs (ShowDeployment device k) = for_device rs device (cond (is_offer_of k false (offer rs device.id))
    (DeploymentShown (record { target = device.id; action = k; chunks = chunks_of rs (modules_of_action rs (item_numbered rs.actions k)) }))
    (Refused NotFound))
query_reply rs (ShowCancel device k) = for_device rs device (cond (is_offer_of k true (offer rs device.id)) (CancelShown k) (Refused NotFound))
query_reply rs (Download device m filename) = for_device rs device (download rs device.id m filename)
query_reply rs (ShowTargets filter_text page) = targets_reply rs page filter_text
query_reply rs (ShowTarget t) = if_found (λ (x : Target). TargetShown (target_shown rs x)) (target_of rs t)
query_reply rs (ShowTargetActions t page) = if_found (λ (x : Target). ActionsShown (page_of page (actions_of_target rs x.id))) (target_of rs t)
query_reply rs (ShowAction t k) = if_found (λ (a : ActionRecord). ActionShown (action_shown rs k a)) (action_of_target rs t k)
query_reply rs (ShowHistory t k page) = if_found (λ (a : ActionRecord). HistoryShown (page_of page (numbered entry_shown 1 a.history)))
    (action_of_target rs t k)
query_reply rs (ShowModules page) = ModulesShown (page_of page (numbered (module_shown rs) 1 rs.modules))
query_reply rs (ShowModule k) = if_found (λ (label : ModuleLabel). ModuleShown (module_shown rs k label)) (item_numbered rs.modules k)
query_reply rs (ShowArtifacts m page) = if_found (λ (label : ModuleLabel). ArtifactsShown (page_of page (artifacts_shown m 1 rs.artifacts)))
    (item_numbered rs.modules m)
query_reply rs (ShowArtifact m k) = if_found (λ (a : ArtifactRecord). ArtifactShown (artifact_shown k a)) (artifact_of_module rs m k)
query_reply rs (ShowContents m k) = if_found (λ (a : ArtifactRecord). ContentsShown a.contents) (artifact_of_module rs m k)
query_reply rs (ShowSets page) = SetsShown (page_of page (numbered set_shown 1 rs.sets))
query_reply rs (ShowSet k) = if_found (λ (label : SetLabel). SetShown (set_shown k label)) (item_numbered rs.sets k)
query_reply rs (ShowRollouts page) = RolloutsShown (page_of page (map rollout_shown rs.rollouts))
query_reply rs (ShowRollout r) = if_found (λ (x : RolloutRecord). RolloutShown (rollout_shown x)) (item_numbered rs.rollouts r)
query_reply rs (ShowGroups r page) = if_found (λ (x : RolloutRecord). GroupsShown (page_of page (map (group_shown x) x.groups))) (item_numbered rs.rollouts r)
query_reply rs (ShowGroup r i) =
    if_found (λ (x : RolloutRecord). if_found (λ g. GroupShown (group_shown x g)) (group_numbered i x.groups)) (item_numbered rs.rollouts r)
query_reply rs (ShowGroupTargets r i page) =
    if_found (λ (x : RolloutRecord). if_found (λ g. TargetsShown (page_of page (map (target_shown rs) (targets_of rs (members_in g x.members)))))
    (group_numbered i x.groups)) (item_numbered rs.rollouts r)
query_reply rs (ShowReport r) = if_found (λ (x : RolloutRecord). ReportShown (report_of x)) (item_numbered rs.rollouts r)
query_reply rs (ShowActionsTable r) =
    if_found (λ (x : RolloutRecord). ActionsTableShown (actions_where (λ (a : ActionRecord). nat_eq a.rollout r) rs 1 rs.actions))
    (item_numbered rs.rollouts r)

-- ---- commands

-- the reply to an accepted command, by the records after it
abbrev pub command_reply : Command → Records → Reply
command_reply (AddModule label) rs = ModuleAdded (module_shown rs (length rs.modules) label)
command_reply (AddArtifact upload) rs =
    option_map_or (λ a. ArtifactAdded (artifact_shown (length rs.artifacts) a)) (item_numbered rs.artifacts (length rs.artifacts)) Done
command_reply (AddSet label) rs = SetAdded (set_shown (length rs.sets) label)
command_reply (PutTargets rows) rs = TargetsPut (length rows)
command_reply (CreateRollout plan) rs = option_map_or (λ x. RolloutAdded (rollout_shown x)) (item_numbered rs.rollouts (length rs.rollouts)) Done
command_reply _ rs = Done

-- ---- answers

-- the reply, and the command that is appended
pub record Answer : Type 0 where
  pub reply : Reply
  pub accepted : Option Command

-- the answer of a desk that stands for h
unfoldable pub answer : CommandList → Asked → Answer
answer h (Rejected refusal) = record { reply = Refused refusal; accepted = None }
answer h (Asks request) = elim request [
  | Do c ↦ elim (verdict h c) [
    | None ↦ record { reply = command_reply c (records (h ▸ c)); accepted = Some c }
    | Some refusal ↦ record { reply = Refused refusal; accepted = None }
  ]
  | Ask query ↦ record { reply = query_reply (records h) query; accepted = None }
]

-- The answers that are allowed at h: want of memory, with nothing appended; a failed store, whose command, where its
-- verdict was accepted, is in doubt and counts as accepted; or the answer itself.
abbrev pub MayAnswer : CommandList → Asked → Reply → Option Command → Type 0
MayAnswer h asked reply accepted =
    ((reply ≡ Refused NoMemory) × (accepted ≡ None))
    ⊎ (((reply ≡ Refused StoreFailed) × (accepted ≡ (answer h asked).accepted))
    ⊎ ((reply ≢ Refused StoreFailed) × (record { reply = reply; accepted = accepted } ≡ answer h asked)))
