-- The verdict on a command: the first test of its row that holds.
use Rattle.std.specs.Prelude.{ℕ, Bool, true, false, ◌&&◌, ◌||◌, not, cond, nat_eq, nat_lt, nat_le, List, [], ◌∷◌, ◌++◌, map, filter, length, Option}
use Rattle.std.specs.Prelude.{Some, None, is_none, is_some}
use Rattle.std.specs.List.{list_any, find}
use Rattle.rollout_machine.specs.Actions.{outcome_of_deployment, outcome_of_cancel}
use Rattle.rollout_machine.specs.ByteStrings.{item_numbered, same_bytes, contains_word, with_words}
use Rattle.rollout_machine.specs.CommandList.{CommandList}
use Rattle.rollout_machine.specs.Commands.{Bytes, Credential, TargetRow, Attribute, ModuleLabel, SetLabel, Upload, NotedCancel, Command}
use Rattle.rollout_machine.specs.Commands.{AddModule, AddArtifact, AddSet, PutTargets, Tag, Untag, PutAttributes, CreateRollout, Approve, Deny, Start}
use Rattle.rollout_machine.specs.Commands.{Pause, Resume, TriggerNext, Cancel, Feedback, CancelFeedback}
use Rattle.rollout_machine.specs.Counts.{is_outcome}
use Rattle.rollout_machine.specs.Digests.{digest_of}
use Rattle.rollout_machine.specs.Groupings.{leaves_empty}
use Rattle.target_filter.specs.Profile.{filter_of}
use Rattle.rollout_model.specs.Limits.{limits}
use Rattle.rollout_machine.specs.Ranges.{is_some_and}
use Rattle.rollout_machine.specs.Records.{ArtifactRecord, GroupRecord, RolloutRecord, ActionRecord, Records, records}
use Rattle.rollout_model.specs.declared.refusal.Refusal.{Refusal}
use Rattle.rollout_model.specs.declared.refusal.Refusal.TheVariants.{Unauthorized, NotFound, Exists, Locked, WrongState, ClosedAction, OldNumber, Quota}
use Rattle.rollout_model.specs.declared.refusal.Refusal.TheVariants.{BadFilter, TooFewTargets, WrongDigest}
use Rattle.rollout_machine.specs.Reports.{HistoryEntry, Reported, Said, OfDeployment, OfCancel, entries_in, reported, says_again, says_old}
use Rattle.rollout_machine.specs.Reports.{standing_of}
use Rattle.rollout_machine.specs.Rollouts.{chosen}
use Rattle.rollout_machine.specs.StateWords.{rollout_word, has_started, is_for, ApprovalDenied, WaitingForApproval, ReadyRollout, FinishedRollout}
use Rattle.rollout_machine.specs.StateWords.{PausedRollout, RunningRollout, RolloutWord}
use Rattle.rollout_machine.specs.Targets.{Target}

-- a row of the table: tests in their order, and what each refuses with
abbrev pub first_refusal : List (Bool × Refusal) → Option Refusal
first_refusal [] = None
first_refusal ((t, refusal) ∷ row) = cond t (Some refusal) (first_refusal row)

abbrev pub target_of : Records → Bytes → Option Target
target_of rs t = find (λ (x : Target). same_bytes x.id t) rs.targets

abbrev pub is_known : Records → Credential → Bool
is_known rs device = list_any (λ (x : Target). same_bytes x.id device.id && same_bytes x.digest device.digest) rs.targets

abbrev pub tags_of : Option Target → List Bytes
tags_of None = []
tags_of (Some x) = x.tags

abbrev pub target_keys : Option Target → List Bytes
target_keys None = []
target_keys (Some x) = map (λ (a : Attribute). a.key) x.attributes

-- two words are the same
abbrev pub same_word : RolloutWord → RolloutWord → Bool
same_word ApprovalDenied ApprovalDenied = true
same_word WaitingForApproval WaitingForApproval = true
same_word ReadyRollout ReadyRollout = true
same_word FinishedRollout FinishedRollout = true
same_word PausedRollout PausedRollout = true
same_word RunningRollout RunningRollout = true
same_word _ _ = false

-- a command on a rollout: it is there, and in the state of this word
abbrev pub rollout_word_row : Records → ℕ → RolloutWord → List (Bool × Refusal)
rollout_word_row rs r word =
    (is_none (item_numbered rs.rollouts r), NotFound)
    ∷ (not (is_some_and (λ (x : RolloutRecord). same_word word (rollout_word x)) (item_numbered rs.rollouts r)), WrongState) ∷ []

abbrev pub says_note : Said → Bool
says_note (OfDeployment word) = is_none (outcome_of_deployment word)
says_note (OfCancel (NotedCancel p)) = true
says_note (OfCancel _) = false

abbrev pub notes_of : ActionRecord → ℕ
notes_of a = length (filter (λ (entry : HistoryEntry). says_note entry.said) (entries_in a.history))

abbrev pub is_device_action : Records → Bytes → Option ActionRecord → Bool
is_device_action rs t found = is_some_and (λ a. is_for rs t a && has_started rs a) found

-- a report that an open action has heard of a later one, or another one of its number
abbrev pub is_old : Reported → ActionRecord → Bool
is_old new a = is_none a.outcome && says_old (standing_of a.history new)

-- a report that changes an open action
abbrev pub is_new : Reported → ActionRecord → Bool
is_new new a = is_none a.outcome && not (says_again (standing_of a.history new))

-- a note for which there is no room
abbrev pub is_beyond : Reported → ActionRecord → Bool
is_beyond new a = says_note new.entry.said && nat_le limits.notes (notes_of a)

-- a set names the module
abbrev pub is_named_by_set : List SetLabel → ℕ → Bool
is_named_by_set sets m = list_any (λ (s : SetLabel). list_any (λ n. nat_eq n m) s.modules) sets

abbrev pub wrong_digest : Upload → Bool
wrong_digest u = elim u.expected [ None ↦ false | Some d ↦ not (same_bytes d (digest_of u.contents)) ]

abbrev pub verdict_row : Records → Command → List (Bool × Refusal)
verdict_row rs (AddModule label) =
    (list_any (λ (m : ModuleLabel). same_bytes m.name label.name && (same_bytes m.kind label.kind && same_bytes m.version label.version)) rs.modules, Exists)
    ∷ (nat_le limits.modules (length rs.modules), Quota) ∷ []
verdict_row rs (AddArtifact u) =
    (is_none (item_numbered rs.modules u.module_number), NotFound)
    ∷ (is_named_by_set rs.sets u.module_number, Locked)
    ∷ (list_any (λ (v : ArtifactRecord). nat_eq v.module_number u.module_number && same_bytes v.filename u.filename) rs.artifacts, Exists)
    ∷ (
      nat_le limits.module_artifacts (length (filter (λ (v : ArtifactRecord). nat_eq v.module_number u.module_number) rs.artifacts))
          || nat_le limits.artifacts (length rs.artifacts),
      Quota,
    )
    ∷ (wrong_digest u, WrongDigest) ∷ []
verdict_row rs (AddSet s) =
    (list_any (λ m. is_none (item_numbered rs.modules m)) s.modules, NotFound)
    ∷ (list_any (λ (v : SetLabel). same_bytes v.name s.name && same_bytes v.version s.version) rs.sets, Exists)
    ∷ (nat_le limits.sets (length rs.sets), Quota) ∷ []
verdict_row rs (PutTargets rows) =
    (nat_lt limits.targets (length (with_words (map (λ (row : TargetRow). row.id) rows) (map (λ (t : Target). t.id) rs.targets))), Quota) ∷ []
verdict_row rs (Tag t x) =
    (is_none (target_of rs t), NotFound) ∷ (
      not (contains_word x (tags_of (target_of rs t)))
          && nat_le limits.tags (length (tags_of (target_of rs t))),
      Quota,
    ) ∷ []
verdict_row rs (Untag t x) = (is_none (target_of rs t), NotFound) ∷ []
verdict_row rs (PutAttributes device attributes) =
    (not (is_known rs device), Unauthorized)
    ∷ (nat_lt limits.attributes (length (with_words (map (λ (a : Attribute). a.key) attributes) (target_keys (target_of rs device.id)))), Quota) ∷ []
verdict_row rs (CreateRollout plan) =
    (is_none (filter_of plan.filter_text), BadFilter)
    ∷ (is_none (item_numbered rs.sets plan.set_number), NotFound)
    ∷ (list_any (λ (x : RolloutRecord). same_bytes x.plan.name plan.name) rs.rollouts, Exists)
    ∷ (leaves_empty plan.groups (length (chosen (filter_of plan.filter_text) rs.targets)), TooFewTargets)
    ∷ (nat_le limits.rollouts (length rs.rollouts), Quota) ∷ []
verdict_row rs (Approve r) = rollout_word_row rs r WaitingForApproval
verdict_row rs (Deny r) = rollout_word_row rs r WaitingForApproval
verdict_row rs (Start r) = rollout_word_row rs r ReadyRollout
verdict_row rs (Pause r) = rollout_word_row rs r RunningRollout
verdict_row rs (Resume r) = rollout_word_row rs r PausedRollout
verdict_row rs (TriggerNext r) =
    rollout_word_row rs r RunningRollout
    ++ (not (is_some_and (λ (x : RolloutRecord). list_any (λ (g : GroupRecord). not g.started) x.groups) (item_numbered rs.rollouts r)), WrongState) ∷ []
verdict_row rs (Cancel t k force) =
    (is_none (target_of rs t) || not (is_some_and (is_for rs t) (item_numbered rs.actions k)), NotFound)
    ∷ (is_some_and (λ a. is_some a.outcome) (item_numbered rs.actions k), ClosedAction)
    ∷ (is_some_and (λ a. not (has_started rs a) || (a.canceling && not force)) (item_numbered rs.actions k), WrongState) ∷ []
verdict_row rs (Feedback feedback) =
    (not (is_known rs feedback.credential), Unauthorized)
    ∷ (not (is_device_action rs feedback.credential.id (item_numbered rs.actions feedback.action)), NotFound)
    ∷ (
      is_some_and (λ a. is_some a.outcome && not (is_some_and (λ o. is_outcome o a.outcome) (outcome_of_deployment feedback.word)))
          (item_numbered rs.actions feedback.action),
      ClosedAction,
    )
    ∷ (is_some_and (is_old (reported OfDeployment feedback)) (item_numbered rs.actions feedback.action), OldNumber)
    ∷ (
      is_some_and (λ a. is_new (reported OfDeployment feedback) a && is_beyond (reported OfDeployment feedback) a) (item_numbered rs.actions feedback.action),
      Quota,
    ) ∷ []
verdict_row rs (CancelFeedback feedback) =
    (not (is_known rs feedback.credential), Unauthorized)
    ∷ (not (is_device_action rs feedback.credential.id (item_numbered rs.actions feedback.action)), NotFound)
    ∷ (
      is_some_and (λ a. is_some a.outcome && not (is_some_and (λ o. is_outcome o a.outcome) (outcome_of_cancel feedback.word)))
          (item_numbered rs.actions feedback.action),
      ClosedAction,
    )
    ∷ (is_some_and (is_old (reported OfCancel feedback)) (item_numbered rs.actions feedback.action), OldNumber)
    ∷ (is_some_and (λ a. is_new (reported OfCancel feedback) a && not a.canceling) (item_numbered rs.actions feedback.action), WrongState)
    ∷ (
      is_some_and (λ a. is_new (reported OfCancel feedback) a && is_beyond (reported OfCancel feedback) a) (item_numbered rs.actions feedback.action),
      Quota,
    ) ∷ []

-- the first refusal of the row that applies
abbrev pub check : Records → Command → Option Refusal
check rs c = first_refusal (verdict_row rs c)

abbrev pub verdict : CommandList → Command → Option Refusal
verdict h c = check (records h) c
