-- The routes of the management interface.
use Rattle.std.specs.Prelude.{ℕ, List, [], ◌∷◌, codes}
use Rattle.matchit.specs.Rows.{RowsOf}
use Rattle.matchit.specs.Router.{RouteOf}
use Rattle.request_target.specs.Rows.{rows_with}
use Rattle.mgmt_api.specs.declared.routes.ManageRoute.{ManageRoute}
use Rattle.mgmt_api.specs.declared.routes.ManageRoute.TheVariants.{Modules, Module, Artifacts, Artifact, Contents, Sets, Set, Targets, Target}
use Rattle.mgmt_api.specs.declared.routes.ManageRoute.TheVariants.{TargetTag, TargetActions, Action, History, Rollouts, Rollout, Turned, Groups}
use Rattle.mgmt_api.specs.declared.routes.ManageRoute.TheVariants.{Group, GroupTargets, Report, ActionsTable, Import}
use Rattle.mgmt_api.specs.declared.turn.RolloutTurn.TheVariants.{Approve, Deny, Start, Pause, Resume, TriggerNext}

-- where a file of targets is handed in
abbrev pub import_path : List ℕ
import_path = codes "/desk/v1/import"

-- a segment in braces is a parameter
abbrev pub manage_table : List (List ℕ × ManageRoute)
manage_table =
    (codes "/rest/v1/softwaremodules", Modules)
    ∷ (codes "/rest/v1/softwaremodules/{module}", Module)
    ∷ (codes "/rest/v1/softwaremodules/{module}/artifacts", Artifacts)
    ∷ (codes "/rest/v1/softwaremodules/{module}/artifacts/{artifact}", Artifact)
    ∷ (codes "/rest/v1/softwaremodules/{module}/artifacts/{artifact}/download", Contents)
    ∷ (codes "/rest/v1/distributionsets", Sets)
    ∷ (codes "/rest/v1/distributionsets/{set}", Set)
    ∷ (codes "/rest/v1/targets", Targets)
    ∷ (codes "/rest/v1/targets/{target}", Target)
    ∷ (codes "/rest/v1/targets/{target}/tags/{tag}", TargetTag)
    ∷ (codes "/rest/v1/targets/{target}/actions", TargetActions)
    ∷ (codes "/rest/v1/targets/{target}/actions/{action}", Action)
    ∷ (codes "/rest/v1/targets/{target}/actions/{action}/status", History)
    ∷ (codes "/rest/v1/rollouts", Rollouts)
    ∷ (codes "/rest/v1/rollouts/{rollout}", Rollout)
    ∷ (codes "/rest/v1/rollouts/{rollout}/approve", Turned Approve)
    ∷ (codes "/rest/v1/rollouts/{rollout}/deny", Turned Deny)
    ∷ (codes "/rest/v1/rollouts/{rollout}/start", Turned Start)
    ∷ (codes "/rest/v1/rollouts/{rollout}/pause", Turned Pause)
    ∷ (codes "/rest/v1/rollouts/{rollout}/resume", Turned Resume)
    ∷ (codes "/rest/v1/rollouts/{rollout}/triggerNextGroup", Turned TriggerNext)
    ∷ (codes "/rest/v1/rollouts/{rollout}/deploygroups", Groups)
    ∷ (codes "/rest/v1/rollouts/{rollout}/deploygroups/{group}", Group)
    ∷ (codes "/rest/v1/rollouts/{rollout}/deploygroups/{group}/targets", GroupTargets)
    ∷ (codes "/desk/v1/rollouts/{rollout}/report", Report)
    ∷ (codes "/desk/v1/rollouts/{rollout}/actions", ActionsTable)
    ∷ (import_path, Import) ∷ []

-- the router's rows
abbrev pub manage_rows : RowsOf (RouteOf ManageRoute)
manage_rows = rows_with manage_table []
