-- The text of each reply.
use Rattle.std.specs.Prelude.{◌≡◌, ℕ, Bool, false, if◌then◌else◌, List, [], map, codes, bytes_eq, Result, MatchResult}
use Rattle.serde_json.specs.Data.{Data}
use Rattle.serde_json.specs.Written.{compact_text}
use Rattle.http_wire.specs.Messages.{WireMessage}
use Rattle.http_wire.specs.Targets.{path_of}
use Rattle.http_wire.specs.Replies.{reply_text, refusal_body}
use Rattle.http_wire.specs.declared.reply.ContentType.{ContentType}
use Rattle.http_wire.specs.declared.reply.ContentType.TheVariants.{Json, Octets, Text, Csv}
use Rattle.http_wire.specs.declared.reply.Answer.{Answer}
use Rattle.rollout_model.specs.declared.refusal.Refusal.{Refusal}
use Rattle.rollout_model.specs.declared.refusal.Refusal.TheVariants.{NoMemory}
use Rattle.rollout_model.specs.Refusals.{refusal_row}
use Rattle.rollout_machine.specs.Replies.{Reply, PageOf, Refused, Done, ModuleAdded, ModulesShown, ModuleShown, ArtifactAdded, ArtifactsShown}
use Rattle.rollout_machine.specs.Replies.{ArtifactShown, ContentsShown, SetAdded, SetsShown, SetShown, ShownTarget, TargetsPut, TargetsShown}
use Rattle.rollout_machine.specs.Replies.{TargetShown, RolloutAdded, ActionsShown, ActionShown, HistoryShown, RolloutsShown, RolloutShown}
use Rattle.rollout_machine.specs.Replies.{GroupsShown, GroupShown, ReportShown, ActionsTableShown}
use Rattle.desk_files.specs.ActionTables.{table_text}
use Rattle.desk_files.specs.Reports.{report_lines}
use Rattle.mgmt_objects.specs.ActionObjects.{action_data, entry_data}
use Rattle.mgmt_objects.specs.ArtifactObjects.{artifact_data}
use Rattle.mgmt_objects.specs.ModuleObjects.{module_data}
use Rattle.mgmt_objects.specs.RolloutObjects.{group_data, rollout_data}
use Rattle.mgmt_objects.specs.SetObjects.{set_data}
use Rattle.mgmt_objects.specs.TargetObjects.{accepted_data, target_object}
use Rattle.mgmt_objects.specs.Pages.{single, page_data}
use Rattle.mgmt_api.specs.Routes.{import_path}

pub record ReplyParts : Type 0 where
  pub status : ℕ
  pub content_type : ContentType
  -- whether the connection ends after it
  pub ends : Bool
  pub body : List ℕ

abbrev pub json_reply : ℕ → List ℕ → ReplyParts
json_reply status body = record { status = status; content_type = Json; ends = false; body = body }

-- a page of what is shown so
abbrev pub page_reply : {X : Type 0} → (X → Data) → PageOf X → ReplyParts
page_reply shows page = json_reply 200 (compact_text (page_data (map shows page.content) page.total))

-- what is shown in a form of its own
abbrev pub file_reply : ContentType → List ℕ → ReplyParts
file_reply content_type body = record { status = 200; content_type = content_type; ends = false; body = body }

abbrev pub shown_target_data : ShownTarget → Data
shown_target_data t = target_object t.id t.name t.tags t.attributes t.word

-- a refusal by its row of the table, 201 where something was added, 200 otherwise; what devices alone are shown has no body
-- here
abbrev pub parts_of : Reply → ReplyParts
parts_of (Refused refusal) = record {
  status = (refusal_row refusal).status;
  content_type = Json;
  ends = (refusal_row refusal).ends;
  body = refusal_body refusal;
}
parts_of (ModuleAdded m) = json_reply 201 (compact_text (single (module_data m)))
parts_of (ModuleShown m) = json_reply 200 (compact_text (module_data m))
parts_of (ModulesShown page) = page_reply module_data page
parts_of (ArtifactAdded a) = json_reply 201 (compact_text (artifact_data a))
parts_of (ArtifactShown a) = json_reply 200 (compact_text (artifact_data a))
parts_of (ArtifactsShown page) = page_reply artifact_data page
parts_of (ContentsShown contents) = file_reply Octets contents
parts_of (SetAdded s) = json_reply 201 (compact_text (single (set_data s)))
parts_of (SetShown s) = json_reply 200 (compact_text (set_data s))
parts_of (SetsShown page) = page_reply set_data page
parts_of (TargetsPut accepted) = json_reply 201 (compact_text (accepted_data accepted))
parts_of (TargetShown t) = json_reply 200 (compact_text (shown_target_data t))
parts_of (TargetsShown page) = page_reply shown_target_data page
parts_of Done = json_reply 200 (codes "{}")
parts_of (RolloutAdded r) = json_reply 201 (compact_text (rollout_data r))
parts_of (RolloutShown r) = json_reply 200 (compact_text (rollout_data r))
parts_of (RolloutsShown page) = page_reply rollout_data page
parts_of (GroupShown g) = json_reply 200 (compact_text (group_data g))
parts_of (GroupsShown page) = page_reply group_data page
parts_of (ActionShown a) = json_reply 200 (compact_text (action_data a))
parts_of (ActionsShown page) = page_reply action_data page
parts_of (HistoryShown page) = page_reply entry_data page
parts_of (ReportShown report) = file_reply Text (report_lines report.rollout report.groups)
parts_of (ActionsTableShown actions) = file_reply Csv (table_text actions)
parts_of _ = json_reply 200 []

-- the reply to a message: targets that came as a file are put by the status 200, all else is the reply's own
abbrev pub parts_to : WireMessage → Reply → ReplyParts
parts_to m (TargetsPut accepted) = json_reply (if bytes_eq (path_of m.target) import_path then 200 else 201) (compact_text (accepted_data accepted))
parts_to m reply = parts_of reply

-- the whole text of such a reply on the wire
abbrev pub text_of : ReplyParts → List ℕ
text_of parts = reply_text parts.status parts.content_type parts.ends parts.body

-- an answer has these parts
pub record Has (parts : ReplyParts) (answer : Answer) : Type 0 where
  pub status : answer.status ≡ parts.status
  pub content_type : answer.content_type ≡ parts.content_type
  pub body : answer.body.items ≡ parts.body

-- an answer of these parts, or want of memory
abbrev pub GivesAnswer : ReplyParts → Result Answer Refusal → Type 0
GivesAnswer parts result = MatchResult result (Has parts) (λ refusal. refusal ≡ NoMemory)
