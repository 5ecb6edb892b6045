-- Parts of the definitions, and tests of them, under the names by which proofs cite them.
use Rattle.std.specs.Prelude.{ℕ, Bool, true, false, cond, fold, List, [], ◌∷◌, filter, map, nat_eq, nat_lt, Option, Some, None, is_some, not, ◌&&◌}
use Rattle.std.specs.List.{list_any}
use Rattle.std.specs.Option.{option_and_then, option_map, option_map_or, option_to_list}
use Rattle.rollout_machine.specs.Actions.{ActionPlace}
use Rattle.rollout_machine.specs.Answers.{Answer, command_reply, if_found}
use Rattle.rollout_machine.specs.CommandList.{CommandList, ◌▸◌}
use Rattle.rollout_machine.specs.Commands.{Approve, Bad, Deny, Gone, Good, AddArtifact, AddModule, AddSet, Bytes, Command, ModuleLabel, Outcome}
use Rattle.rollout_machine.specs.Commands.{SetLabel, TargetRow}
use Rattle.rollout_machine.specs.Counts.{error_holds, is_outcome}
use Rattle.rollout_machine.specs.Filters.{matches}
use Rattle.rollout_machine.specs.Groupings.{GroupDefinition, percentages}
use Rattle.rollout_machine.specs.Groups.{last_position, size_of_bounds}
use Rattle.rollout_machine.specs.Objects.{actions_where, artifact_shown, chunks_of, modules_of_action, group_shown, page_of, rollout_shown, target_shown}
use Rattle.rollout_machine.specs.Progress.{Pauses, Resumes, Starts, Triggers, makes}
use Rattle.rollout_machine.specs.Ranges.{each_from, is_some_and, numbered}
use Rattle.rollout_machine.specs.Records.{ActionRecord, Approval, ArtifactRecord, Denied, Given, GroupRecord, Records, RolloutRecord, Waiting, artifact_from}
use Rattle.rollout_machine.specs.Records.{records, rollout_in}
use Rattle.rollout_machine.specs.Replies.{ArtifactAdded, Deployment, Done, Refused, Reply, ShownAction, ShownGroup, ShownRollout, ShownTarget, TargetsShown}
use Rattle.rollout_machine.specs.Reports.{Fresh, HistoryEntry, Numbered, Reported, Standing, against, bearing}
use Rattle.rollout_machine.specs.Requests.{Page}
use Rattle.rollout_machine.specs.Rollouts.{Rollout, chosen, size_of}
use Rattle.rollout_machine.specs.Splits.{first_empty, split_last}
use Rattle.rollout_machine.specs.StateWords.{PausedRollout, ReadyRollout, RolloutWord, RunningRollout, WaitingForApproval, group_holding, is_for}
use Rattle.rollout_machine.specs.StateWords.{InError, InSync, Pending, TargetWord, Unknown, group_numbered, rollout_word}
use Rattle.rollout_machine.specs.ByteStrings.{item_numbered, sorted_words}
use Rattle.rollout_machine.specs.Targets.{Target, targets}
use Rattle.rollout_model.specs.Rules.{is_feedback_number, is_module_list, is_text}
use Rattle.rollout_model.specs.declared.refusal.Refusal.{Refusal}
use Rattle.rollout_model.specs.declared.refusal.Refusal.TheVariants.{BadFilter}
use Rattle.rollout_model.specs.declared.target.Target.{Target as SeenTarget}
use Rattle.target_filter.specs.Grammar.{Tree}
use Rattle.target_filter.specs.Profile.{filter_of}
use Rattle.rollout_machine.specs.Verdicts.{same_word, says_note}

abbrev pub is_started_in : Option RolloutRecord → ActionRecord → Bool
is_started_in found a = is_some_and (λ (x : RolloutRecord). is_some_and (λ (g : GroupRecord). g.started) (group_holding a.position x.groups)) found

abbrev pub group_is_started : Option GroupRecord → Bool
group_is_started found = is_some_and (λ (g : GroupRecord). g.started) found

abbrev pub number_of_group : Option GroupRecord → ℕ
number_of_group found = option_map_or (λ (g : GroupRecord). g.number) found 0

abbrev pub size_of_group : GroupRecord → ℕ
size_of_group g = size_of_bounds g.bounds

abbrev pub is_waiting : RolloutWord → Bool
is_waiting word = same_word WaitingForApproval word

abbrev pub is_ready : RolloutWord → Bool
is_ready word = same_word ReadyRollout word

abbrev pub is_running : RolloutWord → Bool
is_running word = same_word RunningRollout word

abbrev pub is_at_pause : RolloutWord → Bool
is_at_pause word = same_word PausedRollout word

abbrev pub word_is : (RolloutWord → Bool) → Option RolloutRecord → Bool
word_is p found = is_some_and (λ (x : RolloutRecord). p (rollout_word x)) found

abbrev pub is_note : HistoryEntry → Bool
is_note entry = says_note entry.said

abbrev pub same_outcome : Option Outcome → Option Outcome → Bool
same_outcome gives had = is_some_and (λ o. is_outcome o had) gives

abbrev pub places_from : ℕ → ℕ → ℕ → List ActionPlace
places_from r first n = each_from (λ j. record { rollout = r; position = j }) first n

abbrev pub is_action_place : Option ActionPlace → ℕ → ℕ → Bool
is_action_place found r j = is_some_and (λ (p : ActionPlace). nat_eq p.rollout r && nat_eq p.position j) found

abbrev pub added_modules : Command → List ModuleLabel
added_modules c = elim c [ AddModule label ↦ label ∷ [] | _ ↦ [] ]

abbrev pub added_artifacts : Command → List ArtifactRecord
added_artifacts c = elim c [ AddArtifact upload ↦ artifact_from upload ∷ [] | _ ↦ [] ]

abbrev pub added_sets : Command → List SetLabel
added_sets c = elim c [ AddSet label ↦ label ∷ [] | _ ↦ [] ]

abbrev pub approval_by : Option Bool → Approval
approval_by said = elim said [ None ↦ Waiting | Some b ↦ cond b Given Denied ]

abbrev pub tags_by_row : Option TargetRow → List Bytes → List Bytes
tags_by_row found ws = option_map_or (λ (row : TargetRow). sorted_words row.tags) found ws

abbrev pub seen : Target → SeenTarget
seen t = record { id = t.id; name = t.name; tags = t.tags; attributes = t.attributes }

abbrev pub targets_matching : Records → Page → Option Tree → Reply
targets_matching rs page filter_given =
    option_map_or (λ f. TargetsShown (page_of page (map (target_shown rs) (filter (matches f) rs.targets)))) filter_given (Refused BadFilter)

abbrev pub action_if : Records → Bytes → Option ActionRecord → Option ActionRecord
action_if rs t found = option_and_then (λ a. cond (is_for rs t a) (Some a) None) found

abbrev pub artifact_if : ℕ → Option ArtifactRecord → Option ArtifactRecord
artifact_if m found = option_and_then (λ (a : ArtifactRecord). cond (nat_eq a.module_number m) (Some a) None) found

abbrev pub actions_of_rollout : Records → ℕ → List ShownAction
actions_of_rollout rs r = actions_where (λ (a : ActionRecord). nat_eq a.rollout r) rs 1 rs.actions

abbrev pub added_artifact : ℕ → Option ArtifactRecord → Reply
added_artifact k found = option_map_or (λ a. ArtifactAdded (artifact_shown k a)) found Done

abbrev pub command_answer : CommandList → Command → Option Refusal → Answer
command_answer h c refused = elim refused [
  | None ↦ record { reply = command_reply c (records (h ▸ c)); accepted = Some c }
  | Some refusal ↦ record { reply = Refused refusal; accepted = None }
]

abbrev pub is_set_label : SetLabel → Bool
is_set_label s = is_text s.name && (is_text s.version && is_module_list s.modules)

abbrev pub is_feedback_number_or_none : Option ℕ → Bool
is_feedback_number_or_none given = option_map_or is_feedback_number given true

abbrev pub last_defined : List GroupDefinition → ℕ → ℕ → ℕ → ℕ
last_defined ds count m i = elim ds [ [] ↦ last_position m count i | d ∷ ds ↦ split_last m (percentages (d ∷ ds)) i ]

abbrev pub some_empty : List GroupDefinition → ℕ → ℕ → Bool
some_empty ds count m = elim ds [ [] ↦ nat_lt m count | d ∷ ds ↦ is_some (first_empty m (percentages (d ∷ ds))) ]

abbrev pub numbered_if : HistoryEntry → Option ℕ → Option Numbered
numbered_if entry number = option_map (λ n. record { entry = entry; number = n }) number

abbrev pub standing_by : List Reported → HistoryEntry → Option ℕ → Standing
standing_by reports entry number = option_map_or (λ n. against (bearing reports) n entry) number Fresh

abbrev pub has_next : Option RolloutRecord → Bool
has_next found = is_some_and (λ (x : RolloutRecord). list_any (λ (g : GroupRecord). not g.started) x.groups) found

abbrev pub rollouts_in : CommandList → ℕ → List Rollout → List RolloutRecord
rollouts_in h r xs = numbered (rollout_in h) r xs

abbrev pub targets_shown : Records → List Target → List ShownTarget
targets_shown rs ts = map (target_shown rs) ts

abbrev pub rollouts_shown : List RolloutRecord → List ShownRollout
rollouts_shown xs = map rollout_shown xs

abbrev pub groups_shown : RolloutRecord → List GroupRecord → List ShownGroup
groups_shown x gs = map (group_shown x) gs

abbrev pub target_if : Option Target → List Target
target_if found = option_to_list found

abbrev pub group_reply : RolloutRecord → ℕ → (GroupRecord → Reply) → Reply
group_reply x i reply = if_found reply (group_numbered i x.groups)

abbrev pub is_pause_of : ℕ → Command → Bool
is_pause_of r c = makes Pauses r c

abbrev pub is_resume_of : ℕ → Command → Bool
is_resume_of r c = makes Resumes r c

abbrev pub is_trigger_of : ℕ → Command → Bool
is_trigger_of r c = makes Triggers r c

abbrev pub is_start_of : ℕ → Command → Bool
is_start_of r c = makes Starts r c

abbrev pub error_begins_at : Rollout → ℕ → CommandList → Command → ℕ → Bool
error_begins_at x r h c i = error_holds x r i (h ▸ c) && not (error_holds x r i h)

abbrev pub decision_on : ℕ → Command → Option Bool
decision_on r c = elim c [
  | Approve q ↦ cond (nat_eq q r) (Some true) None
  | Deny q ↦ cond (nat_eq q r) (Some false) None
  | _ ↦ None
]

abbrev pub places_of : ℕ → Option Rollout → List ActionPlace
places_of r found = option_map_or (λ (x : Rollout). places_from r 1 (size_of x)) found []

abbrev pub word_by_last : TargetWord → List ActionRecord → TargetWord
word_by_last w as' =
    fold (λ word a. elim a.outcome [ None ↦ Pending | Some o ↦ elim o [ Good ↦ InSync | Bad ↦ InError | Gone ↦ Unknown ] ]) w as'

abbrev pub deployment_shown : Records → Bytes → ℕ → Deployment
deployment_shown rs t k = record { target = t; action = k; chunks = chunks_of rs (modules_of_action rs (item_numbered rs.actions k)) }

abbrev pub members_of : Bytes → CommandList → List Bytes
members_of text h = chosen (filter_of text) (targets h)
