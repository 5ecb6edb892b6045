-- What a message of the management interface asks.
use Rattle.std.specs.Prelude.{◌≡◌, ◌⊎◌, ℕ, true, false, List, [], ◌∷◌, codes, if◌then◌else◌, Option, Some, None, Result, Ok, Err, MatchResult}
use Rattle.std.specs.Prelude.{option_and_then, slice_get}
use Rattle.std.specs.Option.{is_some}
use Rattle.http_wire.specs.Messages.{WireMessage}
use Rattle.http_wire.specs.Targets.{path_of, query_text}
use Rattle.rollout_model.specs.declared.refusal.Refusal.{Refusal}
use Rattle.rollout_model.specs.declared.refusal.Refusal.TheVariants.{BadRequest, NotFound, BadMethod, BadImportLine, NoMemory}
use Rattle.rollout_model.specs.declared.request.Request.{Request as RustRequest}
use Rattle.rollout_model.specs.declared.target_row.TargetRow.{TargetRow}
use Rattle.rollout_model.specs.Rules.{kept_if, is_number, is_word}
use Rattle.rollout_machine.specs.Commands.{Command, AddModule, AddArtifact, AddSet, PutTargets, Tag, Untag, CreateRollout, Cancel}
use Rattle.rollout_machine.specs.Requests.{Do, Ask, Query, Page, ShowModules, ShowModule, ShowArtifacts, ShowArtifact, ShowContents, ShowSets}
use Rattle.rollout_machine.specs.Requests.{ShowSet, ShowTargets, ShowTarget, ShowTargetActions, ShowAction, ShowHistory, ShowRollouts, ShowRollout}
use Rattle.rollout_machine.specs.Requests.{ShowGroups, ShowGroup, ShowGroupTargets, ShowReport, ShowActionsTable, Asked, Rejected, Asks}
use Rattle.rollout_machine.specs.Views.{request_of}
use Rattle.request_target.specs.Numbers.{decimal_number}
use Rattle.request_target.specs.Queries.{query_pairs_of, value_of}
use Rattle.request_target.specs.Routes.{route_of, segments}
use Rattle.mgmt_api.specs.Routes.{manage_table}
use Rattle.mgmt_objects.specs.Bodies.{body_data, body_item}
use Rattle.mgmt_objects.specs.ModuleBodies.{label_of}
use Rattle.mgmt_objects.specs.RolloutBodies.{plan_of}
use Rattle.mgmt_objects.specs.SetBodies.{set_label_of}
use Rattle.mgmt_objects.specs.TargetBodies.{are_posted, target_row_of}
use Rattle.mgmt_objects.specs.Traverse.{array_of}
use Rattle.desk_files.specs.Imports.{targets_in_file}
use Rattle.mgmt_api.specs.Calls.{calls_of}
use Rattle.mgmt_api.specs.CancelQueries.{force_asked}
use Rattle.mgmt_api.specs.PageQueries.{query_page}
use Rattle.mgmt_api.specs.TargetQueries.{selection_asked}
use Rattle.mgmt_api.specs.Turns.{turn_command}
use Rattle.mgmt_api.specs.UploadQueries.{upload_asked}
use Rattle.mgmt_api.specs.declared.call.ManageCall.{ManageCall}
use Rattle.mgmt_api.specs.declared.call.ManageCall.TheVariants.{ShowModules as ShowModulesCall, AddModule as AddModuleCall}
use Rattle.mgmt_api.specs.declared.call.ManageCall.TheVariants.{ShowModule as ShowModuleCall, ShowArtifacts as ShowArtifactsCall}
use Rattle.mgmt_api.specs.declared.call.ManageCall.TheVariants.{AddArtifact as AddArtifactCall, ShowArtifact as ShowArtifactCall}
use Rattle.mgmt_api.specs.declared.call.ManageCall.TheVariants.{ShowContents as ShowContentsCall, ShowSets as ShowSetsCall, AddSet as AddSetCall}
use Rattle.mgmt_api.specs.declared.call.ManageCall.TheVariants.{ShowSet as ShowSetCall, ShowTargets as ShowTargetsCall, PutTargets as PutTargetsCall}
use Rattle.mgmt_api.specs.declared.call.ManageCall.TheVariants.{ShowTarget as ShowTargetCall, Tag as TagCall, Untag as UntagCall}
use Rattle.mgmt_api.specs.declared.call.ManageCall.TheVariants.{ShowTargetActions as ShowTargetActionsCall, ShowAction as ShowActionCall}
use Rattle.mgmt_api.specs.declared.call.ManageCall.TheVariants.{CancelAction, ShowHistory as ShowHistoryCall, ShowRollouts as ShowRolloutsCall}
use Rattle.mgmt_api.specs.declared.call.ManageCall.TheVariants.{CreateRollout as CreateRolloutCall, ShowRollout as ShowRolloutCall, TurnRollout}
use Rattle.mgmt_api.specs.declared.call.ManageCall.TheVariants.{ShowGroups as ShowGroupsCall, ShowGroup as ShowGroupCall}
use Rattle.mgmt_api.specs.declared.call.ManageCall.TheVariants.{ShowGroupTargets as ShowGroupTargetsCall, ShowReport as ShowReportCall}
use Rattle.mgmt_api.specs.declared.call.ManageCall.TheVariants.{ShowActionsTable as ShowActionsTableCall, Import as ImportCall}

-- a part of a message that can't be read rejects it
abbrev pub or_rejected : {A : Type 0} → Refusal → (A → Asked) → Option A → Asked
or_rejected refusal asked None = Rejected refusal
or_rejected refusal asked (Some part) = asked part

-- what is asked by a call that takes no query
abbrev pub without_query : WireMessage → Asked → Asked
without_query m asked = if is_some (query_pairs_of [] (query_text m.target)) then asked else Rejected BadRequest

-- no query, and a body that names what is added
abbrev pub added_by : {A : Type 0} → Option A → (A → Command) → WireMessage → Asked
added_by body command m = without_query m (or_rejected BadRequest (λ label. Asks (Do (command label))) body)

-- the number of an item, from 1 to 2,147,483,647, that the segment at this place of the path writes
abbrev pub item_in : WireMessage → ℕ → Option ℕ
item_in m place = option_and_then (kept_if is_number) (option_and_then decimal_number (slice_get (segments (path_of m.target)) place))

-- what is asked of the item whose number stands at this place of the path; what is no such number is not found
abbrev pub of_item : ℕ → (ℕ → Asked) → WireMessage → Asked
of_item place asked m = or_rejected NotFound asked (item_in m place)

-- an item, and no query
abbrev pub shown_by : (ℕ → Query) → WireMessage → Asked
shown_by query m = of_item 4 (λ number. without_query m (Asks (Ask (query number)))) m

-- the word that the segment at this place of the path is
abbrev pub path_word : WireMessage → ℕ → Option (List ℕ)
path_word m place = option_and_then (kept_if is_word) (slice_get (segments (path_of m.target)) place)

-- what is asked of the target or tag that stands at this place of the path; what is no word is not found
abbrev pub of_word : ℕ → (List ℕ → Asked) → WireMessage → Asked
of_word place asked m = or_rejected NotFound asked (path_word m place)

-- what is asked of an action of a target
abbrev pub of_action : (List ℕ → ℕ → Asked) → WireMessage → Asked
of_action asked m = of_word 4 (λ id. of_item 6 (λ action. asked id action) m) m

-- what is asked of an artifact of a module, or of a group of a rollout
abbrev pub of_part : (ℕ → ℕ → Asked) → WireMessage → Asked
of_part asked m = of_item 4 (λ number. of_item 6 (λ part. asked number part) m) m

-- a page of a list, by a query that holds no other key, and none twice
abbrev pub listed_by : (Page → Query) → WireMessage → Asked
listed_by query m =
    or_rejected BadRequest (λ page. Asks (Ask (query page)))
    (option_and_then query_page (query_pairs_of (codes "offset" ∷ codes "limit" ∷ []) (query_text m.target)))

-- a file of targets, or the line that it is refused by
abbrev pub import_asked : Result (List TargetRow) ℕ → Asked
import_asked (Ok rows) = Asks (Do (PutTargets rows))
import_asked (Err line) = Rejected (BadImportLine line)

abbrev pub asked_by : ManageCall → WireMessage → Asked
asked_by ShowModulesCall m = listed_by ShowModules m
asked_by AddModuleCall m = added_by (option_and_then label_of (body_item m.body)) AddModule m
asked_by ShowModuleCall m = shown_by ShowModule m
asked_by ShowArtifactsCall m = of_item 4 (λ number. listed_by (ShowArtifacts number) m) m
asked_by AddArtifactCall m =
    of_item 4 (λ number. or_rejected BadRequest (λ upload. Asks (Do (AddArtifact upload))) (upload_asked number (query_text m.target) m.body)) m
asked_by ShowArtifactCall m = of_part (λ number artifact. without_query m (Asks (Ask (ShowArtifact number artifact)))) m
asked_by ShowContentsCall m = of_part (λ number artifact. without_query m (Asks (Ask (ShowContents number artifact)))) m
asked_by ShowSetsCall m = listed_by ShowSets m
asked_by AddSetCall m = added_by (option_and_then set_label_of (body_item m.body)) AddSet m
asked_by ShowSetCall m = shown_by ShowSet m
asked_by ShowTargetsCall m =
    or_rejected BadRequest (λ selection. Asks (Ask (ShowTargets selection.filter_text selection.page))) (selection_asked (query_text m.target))
asked_by PutTargetsCall m = added_by (option_and_then (kept_if are_posted) (option_and_then (array_of target_row_of) (body_data m.body))) PutTargets m
asked_by ShowTargetCall m = of_word 4 (λ id. without_query m (Asks (Ask (ShowTarget id)))) m
asked_by TagCall m = of_word 4 (λ id. of_word 6 (λ tag. without_query m (Asks (Do (Tag id tag)))) m) m
asked_by UntagCall m = of_word 4 (λ id. of_word 6 (λ tag. without_query m (Asks (Do (Untag id tag)))) m) m
asked_by ShowTargetActionsCall m = of_word 4 (λ id. listed_by (ShowTargetActions id) m) m
asked_by ShowActionCall m = of_action (λ id action. without_query m (Asks (Ask (ShowAction id action)))) m
asked_by CancelAction m =
    of_action (λ id action. or_rejected BadRequest (λ force. Asks (Do (Cancel id action force))) (force_asked (query_text m.target))) m
asked_by ShowHistoryCall m = of_action (λ id action. listed_by (ShowHistory id action) m) m
asked_by ShowRolloutsCall m = listed_by ShowRollouts m
asked_by CreateRolloutCall m = added_by (option_and_then plan_of (body_data m.body)) CreateRollout m
asked_by ShowRolloutCall m = shown_by ShowRollout m
asked_by (TurnRollout turn) m = of_item 4 (λ number. without_query m (Asks (Do (turn_command turn number)))) m
asked_by ShowGroupsCall m = of_item 4 (λ number. listed_by (ShowGroups number) m) m
asked_by ShowGroupCall m = of_part (λ number group. without_query m (Asks (Ask (ShowGroup number group)))) m
asked_by ShowGroupTargetsCall m = of_part (λ number group. listed_by (ShowGroupTargets number group) m) m
asked_by ShowReportCall m = shown_by ShowReport m
asked_by ShowActionsTableCall m = shown_by ShowActionsTable m
asked_by ImportCall m = without_query m (import_asked (targets_in_file m.body))

-- the first refusal that applies: the route, the method, and then the call's own
abbrev pub manage_reading : WireMessage → Asked
manage_reading m =
    or_rejected NotFound (λ route. or_rejected BadMethod (λ call. asked_by call m) (value_of m.method (calls_of route)))
    (route_of manage_table (path_of m.target))

-- what a reader refuses by, beside want of memory
abbrev pub IsReadersOwn : Refusal → Type 0
IsReadersOwn refusal = (refusal ≡ NotFound) ⊎ (refusal ≡ BadMethod) ⊎ (refusal ≡ BadRequest) ⊎ ((line : ℕ) × (refusal ≡ BadImportLine line))

-- the request that is asked, or the refusal that it is rejected by; in place of either, want of memory
abbrev pub ReadsRequest : Asked → Result RustRequest Refusal → Type 0
ReadsRequest asked result = MatchResult result (λ request. asked ≡ Asks (request_of request))
    (λ refusal. (refusal ≡ NoMemory) ⊎ ((asked ≡ Rejected refusal) × IsReadersOwn refusal))

-- no query, or a bad request where there is one; in place of either, want of memory
abbrev pub TakesNoQuery : WireMessage → Result (Unit {0}) Refusal → Type 0
TakesNoQuery m result = MatchResult result (λ _. is_some (query_pairs_of [] (query_text m.target)) ≡ true)
    (λ refusal. (refusal ≡ NoMemory) ⊎ ((refusal ≡ BadRequest) × (is_some (query_pairs_of [] (query_text m.target)) ≡ false)))
