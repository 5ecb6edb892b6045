-- The pure values of the types of commands, queries and replies.
use Rattle.std.specs.Prelude.{map}
use Rattle.rollout_model.specs.declared.request.Command.{Command as RustCommand}
use Rattle.rollout_model.specs.declared.request.Command.TheVariants as told
use Rattle.rollout_model.specs.declared.request.Query.{Query as RustQuery}
use Rattle.rollout_model.specs.declared.request.Query.TheVariants as asked
use Rattle.rollout_model.specs.declared.request.Request.{Request as RustRequest}
use Rattle.rollout_model.specs.declared.request.Request.TheVariants.{Do as RustDo, Ask as RustAsk}
use Rattle.rollout_model.specs.declared.page.PageOf.{PageOf as RustPageOf}
use Rattle.rollout_model.specs.declared.shown_target.ShownTarget.{ShownTarget as RustShownTarget}
use Rattle.rollout_model.specs.declared.request.Reply.{Reply as RustReply}
use Rattle.rollout_model.specs.declared.request.Reply.TheVariants as shown
use Rattle.rollout_model.specs.declared.rollout.Chunk.{Chunk as RustChunk}
use Rattle.rollout_model.specs.declared.rollout.Deployment.{Deployment as RustDeployment}
use Rattle.rollout_model.specs.declared.rollout.RolloutReport.{RolloutReport}
use Rattle.rollout_machine.specs.Commands.{Command, AddModule, AddArtifact, AddSet, PutTargets, Tag, Untag, PutAttributes, CreateRollout, Approve}
use Rattle.rollout_machine.specs.Commands.{Deny, Start, Pause, Resume, TriggerNext, Cancel, Feedback, CancelFeedback}
use Rattle.rollout_machine.specs.Replies.{PageOf, ShownTarget, Chunk, Deployment, Report, Reply, Done, ModuleAdded, ModulesShown, ModuleShown}
use Rattle.rollout_machine.specs.Replies.{ArtifactAdded, ArtifactsShown, ArtifactShown, ContentsShown, SetAdded, SetsShown, SetShown, TargetsPut}
use Rattle.rollout_machine.specs.Replies.{TargetsShown, TargetShown, RolloutAdded, PollShown, DeploymentShown, CancelShown, ActionsShown, ActionShown}
use Rattle.rollout_machine.specs.Replies.{HistoryShown, RolloutsShown, RolloutShown, GroupsShown, GroupShown, ReportShown, ActionsTableShown, Refused}
use Rattle.rollout_machine.specs.Requests.{Query, ShowModules, ShowModule, ShowArtifacts, ShowArtifact, ShowContents, ShowSets, ShowSet, ShowTargets}
use Rattle.rollout_machine.specs.Requests.{ShowTarget, Poll, ShowDeployment, ShowCancel, Download, ShowTargetActions, ShowAction, ShowHistory}
use Rattle.rollout_machine.specs.Requests.{ShowRollouts, ShowRollout, ShowGroups, ShowGroup, ShowGroupTargets, ShowReport, ShowActionsTable, Request}
use Rattle.rollout_machine.specs.Requests.{Do, Ask}

abbrev pub command_of : RustCommand → Command
command_of (told.AddModule label) = AddModule label
command_of (told.AddArtifact upload) = AddArtifact upload
command_of (told.AddSet label) = AddSet label
command_of (told.PutTargets rows) = PutTargets rows
command_of (told.Tag id tag) = Tag id tag
command_of (told.Untag id tag) = Untag id tag
command_of (told.PutAttributes device given) = PutAttributes device given
command_of (told.CreateRollout plan) = CreateRollout plan
command_of (told.Approve number) = Approve number
command_of (told.Deny number) = Deny number
command_of (told.Start number) = Start number
command_of (told.Pause number) = Pause number
command_of (told.Resume number) = Resume number
command_of (told.TriggerNext number) = TriggerNext number
command_of (told.Cancel cancel) = Cancel cancel.target cancel.action cancel.force
command_of (told.Feedback report) = Feedback report
command_of (told.CancelFeedback report) = CancelFeedback report

abbrev pub query_of : RustQuery → Query
query_of (asked.Modules page) = ShowModules page
query_of (asked.Module number) = ShowModule number
query_of (asked.Artifacts m page) = ShowArtifacts m page
query_of (asked.Artifact m number) = ShowArtifact m number
query_of (asked.Contents m number) = ShowContents m number
query_of (asked.Sets page) = ShowSets page
query_of (asked.Set number) = ShowSet number
query_of (asked.Targets filter_text page) = ShowTargets filter_text page
query_of (asked.Target id) = ShowTarget id
query_of (asked.Poll device) = Poll device
query_of (asked.Deployment device action) = ShowDeployment device action
query_of (asked.CancelOf device action) = ShowCancel device action
query_of (asked.Download device module_number filename) = Download device module_number filename
query_of (asked.Actions target page) = ShowTargetActions target page
query_of (asked.Action target action) = ShowAction target action
query_of (asked.History target action page) = ShowHistory target action page
query_of (asked.Rollouts page) = ShowRollouts page
query_of (asked.Rollout number) = ShowRollout number
query_of (asked.Groups number page) = ShowGroups number page
query_of (asked.Group number group) = ShowGroup number group
query_of (asked.GroupTargets number group page) = ShowGroupTargets number group page
query_of (asked.Report number) = ShowReport number
query_of (asked.ActionsTable number) = ShowActionsTable number

abbrev pub request_of : RustRequest → Request
request_of (RustDo command) = Do (command_of command)
request_of (RustAsk query) = Ask (query_of query)

abbrev pub listed : {X : Type 0} → RustPageOf X → PageOf X
listed page = record { content = page.content.items; total = page.total }

abbrev pub shown_target : RustShownTarget → ShownTarget
shown_target t = record { id = t.id; name = t.name; tags = t.tags; attributes = t.attributes; word = t.word }

-- a page of targets
abbrev pub listed_targets : RustPageOf RustShownTarget → PageOf ShownTarget
listed_targets page = record { content = map shown_target page.content.items; total = page.total }

abbrev pub chunk : RustChunk → Chunk
chunk c = record { module_number = c.module_number; label = c.label; artifacts = c.artifacts.items }

abbrev pub deployment : RustDeployment → Deployment
deployment d = record { target = d.target; action = d.action; chunks = map chunk d.chunks.items }

abbrev pub report : RolloutReport → Report
report r = record { rollout = r.rollout; groups = r.groups.items }

abbrev pub reply_of : RustReply → Reply
reply_of shown.Done = Done
reply_of (shown.ModuleAdded m) = ModuleAdded m
reply_of (shown.Modules page) = ModulesShown (listed page)
reply_of (shown.Module m) = ModuleShown m
reply_of (shown.ArtifactAdded a) = ArtifactAdded a
reply_of (shown.Artifacts page) = ArtifactsShown (listed page)
reply_of (shown.Artifact a) = ArtifactShown a
reply_of (shown.Contents contents) = ContentsShown contents
reply_of (shown.SetAdded s) = SetAdded s
reply_of (shown.Sets page) = SetsShown (listed page)
reply_of (shown.Set s) = SetShown s
reply_of (shown.TargetsPut accepted) = TargetsPut accepted
reply_of (shown.Targets page) = TargetsShown (listed_targets page)
reply_of (shown.Target t) = TargetShown (shown_target t)
reply_of (shown.RolloutAdded rollout) = RolloutAdded rollout
reply_of (shown.Poll target offer) = PollShown target offer
reply_of (shown.Deployment d) = DeploymentShown (deployment d)
reply_of (shown.Cancel action) = CancelShown action
reply_of (shown.Actions page) = ActionsShown (listed page)
reply_of (shown.Action action) = ActionShown action
reply_of (shown.History page) = HistoryShown (listed page)
reply_of (shown.Rollouts page) = RolloutsShown (listed page)
reply_of (shown.Rollout rollout) = RolloutShown rollout
reply_of (shown.Groups page) = GroupsShown (listed page)
reply_of (shown.Group group) = GroupShown group
reply_of (shown.Report r) = ReportShown (report r)
reply_of (shown.ActionsTable actions) = ActionsTableShown actions.items
reply_of (shown.Refused refusal) = Refused refusal
