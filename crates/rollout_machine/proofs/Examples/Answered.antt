-- Answers at their borders: what is shown, what is not found, pages, offers and downloads.
use Rattle.rollout_machine.proofs.Common.{◌≡◌, ℕ, Bool, true, false, [], ◌∷◌, ◌++◌, Some, None, refl, map, codes, query_reply, command_reply, ModuleLabel}
use Rattle.rollout_machine.proofs.Common.{AddModule, AddArtifact, AddSet, PutTargets, CreateRollout, Cancel, Succeeded, OfDeployment, step_records}
use Rattle.rollout_machine.proofs.Common.{ArtifactRecord, Records, Refused, ModuleAdded, ArtifactAdded, SetAdded, TargetsPut, PollShown, DeploymentShown}
use Rattle.rollout_machine.proofs.Common.{CancelShown, ContentsShown, TargetsShown, ActionsShown, ActionShown, HistoryShown, ModulesShown, ModuleShown}
use Rattle.rollout_machine.proofs.Common.{ArtifactsShown, ArtifactShown, RolloutsShown, GroupShown, ActionsTableShown, Module, Artifact, ShownTarget}
use Rattle.rollout_machine.proofs.Common.{ShownAction, Page, Poll, ShowDeployment, ShowCancel, Download, ShowTargets, ShowTarget, ShowTargetActions}
use Rattle.rollout_machine.proofs.Common.{ShowAction, ShowHistory, ShowModules, ShowModule, ShowArtifacts, ShowArtifact, ShowContents, ShowRollouts, ShowGroup}
use Rattle.rollout_machine.proofs.Common.{ShowGroupTargets, ShowActionsTable, RunningGroup, ScheduledGroup, RunningAction, ScheduledAction, Unknown}
use Rattle.rollout_machine.proofs.Common.{Unauthorized, NotFound, BadFilter}
use Rattle.rollout_machine.proofs.Examples.Fleet.{device, token, plan_for, only, everyone, fleet, set_up, rolled_out, by, succeeds, run_of}
use Rattle.rollout_machine.proofs.RecordRuns.{no_records}

abbrev base : Records
base = no_records false

abbrev app : ModuleLabel
app = record { name = codes "app"; kind = codes "os"; version = codes "1.0" }

abbrev more : ModuleLabel
more = record { name = codes "app"; kind = codes "os"; version = codes "1.1" }

abbrev page : ℕ → ℕ → Page
page offset limit = record { offset = offset; limit = limit }

abbrev shown_module : ℕ → Bool → ModuleLabel → Module
shown_module k locked label = record { number = k; locked = locked; label = label }

-- ---- modules

module_added : command_reply (AddModule app) (step_records base (AddModule app)) ≡ ModuleAdded (shown_module 1 false app)
module_added = refl

abbrev two : Records
two = record base { modules = app ∷ more ∷ []; sets = record { name = codes "r1"; version = codes "1"; modules = 2 ∷ [] } ∷ [] }

modules_by_number : map (query_reply two) (ShowModule 0 ∷ ShowModule 1 ∷ ShowModule 2 ∷ ShowModule 3 ∷ [])
    ≡ Refused NotFound ∷ ModuleShown (shown_module 1 false app) ∷ ModuleShown (shown_module 2 true more) ∷ Refused NotFound ∷ []
modules_by_number = refl

pages : map (λ p. query_reply two (ShowModules p)) (page 0 50 ∷ page 1 1 ∷ page 2 50 ∷ []) ≡
    ModulesShown (record { content = shown_module 1 false app ∷ shown_module 2 true more ∷ []; total = 2 })
    ∷ ModulesShown (record { content = shown_module 2 true more ∷ []; total = 2 })
    ∷ ModulesShown (record { content = []; total = 2 }) ∷ []
pages = refl

no_rollouts : query_reply base (ShowRollouts (page 5 50)) ≡ RolloutsShown (record { content = []; total = 0 })
no_rollouts = refl

set_added : command_reply (AddSet (record { name = codes "r1"; version = codes "1"; modules = 2 ∷ [] })) two
    ≡ SetAdded (record { number = 1; label = record { name = codes "r1"; version = codes "1"; modules = 2 ∷ [] } })
set_added = refl

-- ---- artifacts have numbers of the desk, and stand under their module

abbrev stored_file : ℕ → ℕ → ArtifactRecord
stored_file m name = record { module_number = m; filename = name ∷ []; size = 1; digest = []; contents = name ∷ [] }

abbrev with_files : Records
with_files = record two { artifacts = stored_file 1 97 ∷ stored_file 2 98 ∷ stored_file 1 99 ∷ [] }

abbrev shown_file : ℕ → ℕ → Artifact
shown_file k name = record { number = k; filename = name ∷ []; size = 1; digest = [] }

files_of_module : query_reply with_files (ShowArtifacts 1 (page 0 50)) ≡ ArtifactsShown (record { content = shown_file 1 97 ∷ shown_file 3 99 ∷ []; total = 2 })
files_of_module = refl

files_by_number : map (query_reply with_files) (ShowArtifact 1 3 ∷ ShowArtifact 1 2 ∷ ShowArtifact 3 1 ∷ ShowContents 2 2 ∷ ShowArtifacts 3 (page 0 50) ∷ [])
    ≡ ArtifactShown (shown_file 3 99) ∷ Refused NotFound ∷ Refused NotFound ∷ ContentsShown (98 ∷ []) ∷ Refused NotFound ∷ []
files_by_number = refl

file_added : command_reply (AddArtifact (record { module_number = 1; filename = 99 ∷ []; expected = None; contents = 99 ∷ [] })) with_files
    ≡ ArtifactAdded (shown_file 3 99)
file_added = refl

-- ---- targets

accepted_rows : command_reply (PutTargets fleet) (run_of (PutTargets fleet ∷ [])) ≡ TargetsPut 10
accepted_rows = refl

abbrev shown_target : ℕ → ShownTarget
shown_target k = record { id = device k; name = device k; tags = []; attributes = []; word = Unknown }

targets_by_filter : map (λ text. query_reply (run_of (PutTargets fleet ∷ [])) (ShowTargets (Some text) (page 0 50))) (only 3 ∷ codes "name=x" ∷ [])
    ≡ TargetsShown (record { content = shown_target 3 ∷ []; total = 1 }) ∷ Refused BadFilter ∷ []
targets_by_filter = refl

no_target : query_reply base (ShowTarget (device 1)) ≡ Refused NotFound
no_target = refl

-- ---- what devices are told

abbrev running : Records
running = run_of (rolled_out everyone 3 50 100)

strangers : map (query_reply running) (Poll (record { id = device 1; digest = token 2 }) ∷ Poll (record { id = 1 ∷ []; digest = token 1 }) ∷ ShowDeployment
    (record { id = device 1; digest = token 2 }) 1 ∷ []) ≡ Refused Unauthorized ∷ Refused Unauthorized ∷ Refused Unauthorized ∷ []
strangers = refl

polls : map (λ k. query_reply running (Poll (by k))) (1 ∷ 4 ∷ []) ≡ PollShown (device 1) (Some (record { action = 1; canceling = false }))
    ∷ PollShown (device 4) None ∷ []
polls = refl

deployments : map (query_reply running) (ShowDeployment (by 4) 4 ∷ ShowDeployment (by 1) 2 ∷ ShowCancel (by 1) 1 ∷ [])
    ≡ Refused NotFound ∷ Refused NotFound ∷ Refused NotFound ∷ []
deployments = refl

deployment : query_reply running (ShowDeployment (by 1) 1)
    ≡ DeploymentShown (record {
      target = device 1;
      action = 1;
      chunks =
          record { module_number = 1; label = record { name = 97 ∷ []; kind = 97 ∷ []; version = 97 ∷ [] }; artifacts = [] } ∷ [];
    })
deployment = refl

canceling : map (query_reply (step_records running (Cancel (device 1) 1 false))) (ShowCancel (by 1) 1 ∷ ShowDeployment (by 1) 1 ∷ [])
    ≡ CancelShown 1 ∷ Refused NotFound ∷ []
canceling = refl

abbrev with_contents : Records
with_contents = record running { artifacts = stored_file 1 97 ∷ [] }

-- of a started member, of a scheduled one, of another module, of another name, of a stranger, and while canceling
downloads : map (query_reply with_contents)
    (Download (by 1) 1 (97 ∷ []) ∷ Download (by 4) 1 (97 ∷ []) ∷ Download (by 1) 2 (97 ∷ []) ∷ Download (by 1) 1 (98 ∷ [])
    ∷ Download (record { id = device 1; digest = token 2 }) 1 (97 ∷ []) ∷ []) ≡ ContentsShown (97 ∷ []) ∷ Refused NotFound ∷ Refused NotFound ∷ Refused NotFound
    ∷ Refused Unauthorized ∷ []
downloads = refl

no_download_while_canceling : query_reply (step_records with_contents (Cancel (device 1) 1 false)) (Download (by 1) 1 (97 ∷ [])) ≡ Refused NotFound
no_download_while_canceling = refl

-- ---- rollouts, groups, actions and histories

groups : map (query_reply (run_of (rolled_out everyone 3 50 100 ++ succeeds 1 1 ∷ []))) (ShowGroup 1 1 ∷ ShowGroup 1 2 ∷ ShowGroup 1 4 ∷ ShowGroup 2 1 ∷ []) ≡
    GroupShown (record { number = 1; size = 3; ok = 1; bad = 0; gone = 0; success = 50; error = 100; word = RunningGroup })
    ∷ GroupShown (record { number = 2; size = 3; ok = 0; bad = 0; gone = 0; success = 50; error = 100; word = ScheduledGroup })
    ∷ Refused NotFound ∷ Refused NotFound ∷ []
groups = refl

members_of_second : query_reply running (ShowGroupTargets 1 2 (page 1 50)) ≡ TargetsShown (record { content = shown_target 5 ∷ shown_target 6 ∷ []; total = 3 })
members_of_second = refl

abbrev shown_action : ℕ → ℕ → ShownAction
shown_action k i = record { number = k; rollout = 1; group = i; target = device k; word = ScheduledAction }

actions_of_devices : map (query_reply running) (ShowAction (device 4) 4 ∷ ShowAction (device 4) 5 ∷ ShowTargetActions (device 4) (page 0 50) ∷ [])
    ≡ ActionShown (shown_action 4 2) ∷ Refused NotFound ∷ ActionsShown (record { content = shown_action 4 2 ∷ []; total = 1 }) ∷ []
actions_of_devices = refl

histories : query_reply (run_of (rolled_out everyone 3 50 100 ++ succeeds 1 1 ∷ succeeds 1 1 ∷ [])) (ShowHistory (device 1) 1 (page 0 50))
    ≡ HistoryShown (record {
      content =
          record { number = 1; reported = record { entry = record { said = OfDeployment Succeeded; details = [] }; number = None } } ∷ [];
      total = 1;
    })
histories = refl

-- the table of actions is empty before the start
actions_tables : map (λ rs. query_reply rs (ShowActionsTable 1))
    (run_of (set_up ++ CreateRollout (plan_for (only 1) 1 1 50 100) ∷ []) ∷ run_of (rolled_out (only 1) 1 50 100) ∷ [])
    ≡ ActionsTableShown [] ∷ ActionsTableShown (record { number = 1; rollout = 1; group = 1; target = device 1; word = RunningAction } ∷ []) ∷ []
actions_tables = refl
