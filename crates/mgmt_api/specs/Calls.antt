-- The calls: what a route is asked by a method.
use Rattle.std.specs.Prelude.{ℕ, List, [], ◌∷◌, codes}
use Rattle.mgmt_api.specs.declared.routes.ManageRoute.{ManageRoute}
use Rattle.mgmt_api.specs.declared.routes.ManageRoute.TheVariants.{Modules, Module, Artifacts, Artifact, Contents, Sets, Set, Targets, Target}
use Rattle.mgmt_api.specs.declared.routes.ManageRoute.TheVariants.{TargetTag, TargetActions, Action, History, Rollouts, Rollout, Turned, Groups}
use Rattle.mgmt_api.specs.declared.routes.ManageRoute.TheVariants.{Group, GroupTargets, Report, ActionsTable, Import}
use Rattle.mgmt_api.specs.declared.call.ManageCall.{ManageCall}
use Rattle.mgmt_api.specs.declared.call.ManageCall.TheVariants.{ShowModules, AddModule, ShowModule, ShowArtifacts, AddArtifact, ShowArtifact}
use Rattle.mgmt_api.specs.declared.call.ManageCall.TheVariants.{ShowContents, ShowSets, AddSet, ShowSet, ShowTargets, PutTargets, ShowTarget, Tag}
use Rattle.mgmt_api.specs.declared.call.ManageCall.TheVariants.{Untag, ShowTargetActions, ShowAction, CancelAction, ShowHistory, ShowRollouts}
use Rattle.mgmt_api.specs.declared.call.ManageCall.TheVariants.{CreateRollout, ShowRollout, TurnRollout, ShowGroups, ShowGroup, ShowGroupTargets}
use Rattle.mgmt_api.specs.declared.call.ManageCall.TheVariants.{ShowReport, ShowActionsTable, Import as ImportCall}

-- the methods of a route, each with its call
abbrev pub calls_of : ManageRoute → List (List ℕ × ManageCall)
calls_of Modules = (codes "GET", ShowModules) ∷ (codes "POST", AddModule) ∷ []
calls_of Module = (codes "GET", ShowModule) ∷ []
calls_of Artifacts = (codes "GET", ShowArtifacts) ∷ (codes "POST", AddArtifact) ∷ []
calls_of Artifact = (codes "GET", ShowArtifact) ∷ []
calls_of Contents = (codes "GET", ShowContents) ∷ []
calls_of Sets = (codes "GET", ShowSets) ∷ (codes "POST", AddSet) ∷ []
calls_of Set = (codes "GET", ShowSet) ∷ []
calls_of Targets = (codes "GET", ShowTargets) ∷ (codes "POST", PutTargets) ∷ []
calls_of Target = (codes "GET", ShowTarget) ∷ []
calls_of TargetTag = (codes "POST", Tag) ∷ (codes "DELETE", Untag) ∷ []
calls_of TargetActions = (codes "GET", ShowTargetActions) ∷ []
calls_of Action = (codes "GET", ShowAction) ∷ (codes "DELETE", CancelAction) ∷ []
calls_of History = (codes "GET", ShowHistory) ∷ []
calls_of Rollouts = (codes "GET", ShowRollouts) ∷ (codes "POST", CreateRollout) ∷ []
calls_of Rollout = (codes "GET", ShowRollout) ∷ []
calls_of (Turned turn) = (codes "POST", TurnRollout turn) ∷ []
calls_of Groups = (codes "GET", ShowGroups) ∷ []
calls_of Group = (codes "GET", ShowGroup) ∷ []
calls_of GroupTargets = (codes "GET", ShowGroupTargets) ∷ []
calls_of Report = (codes "GET", ShowReport) ∷ []
calls_of ActionsTable = (codes "GET", ShowActionsTable) ∷ []
calls_of Import = (codes "POST", ImportCall) ∷ []
