-- Actions in records and in rows.
use Rattle.std.specs.Prelude.{ℕ, List, [], ◌∷◌, ◌++◌, length, Option, pos}
use Rattle.std.specs.List.{flat_map}
use Rattle.sqlite_value.specs.declared.value.Value.TheVariants.{Null, Int, Text}
use Rattle.sqlite_value.specs.Order.{Row}
use Rattle.rollout_machine.specs.ByteStrings.{item_numbered}
use Rattle.rollout_machine.specs.Commands.{Bytes, DeploymentWord, CancelWord, NoteWord, Proceeding, Scheduled, Resumed, Succeeded, Failed, Rejected}
use Rattle.rollout_machine.specs.Commands.{Noted, ClosedCancel, CanceledCancel, RejectedCancel, NotedCancel}
use Rattle.rollout_machine.specs.Reports.{HistoryEntry, Said, OfDeployment, OfCancel, entries_in}
use Rattle.rollout_machine.specs.StateWords.{member_at}
use Rattle.rollout_machine.specs.Verdicts.{notes_of}
use Rattle.rollout_machine.specs.declared.records.ActionRecord.{ActionRecord}
use Rattle.rollout_machine.specs.declared.records.RolloutRecord.{RolloutRecord}
use Rattle.desk_records.specs.Parts.{part_row, parts_of}
use Rattle.desk_records.specs.Codes.{flag, outcome_code}

-- ---- what is kept beside an action

-- how many notes an action has, and how many entries its history
pub record Tally : Type 0 where
  pub notes : ℕ
  pub entries : ℕ

abbrev pub tally_of : ActionRecord → Tally
tally_of a = record { notes = notes_of a; entries = length a.history }

-- ---- the rows

-- the id of the target that is to act
abbrev pub actor_of : List RolloutRecord → ActionRecord → Bytes
actor_of rollouts a = member_at (item_numbered rollouts a.rollout) a.position

-- what is told of an action; its history lies in the other table
abbrev pub told_action : List RolloutRecord → ActionRecord × Tally → Row
told_action rollouts it = Int (pos it.0.rollout) ∷ Int (pos it.0.position) ∷ Text (actor_of rollouts it.0) ∷ Int (pos (flag it.0.canceling))
    ∷ Int (pos (outcome_code it.0.outcome)) ∷ Int (pos it.1.notes) ∷ Int (pos it.1.entries) ∷ []

abbrev pub action_row : List RolloutRecord → ℕ → ActionRecord × Tally → Row
action_row rollouts n it = Int (pos n) ∷ Null ∷ told_action rollouts it

abbrev pub note_code : NoteWord → ℕ
note_code Proceeding = 0
note_code Scheduled = 1
note_code Resumed = 2

abbrev pub deployment_code : DeploymentWord → ℕ
deployment_code Succeeded = 3
deployment_code Failed = 4
deployment_code Rejected = 5
deployment_code (Noted w) = note_code w

abbrev pub cancel_code : CancelWord → ℕ
cancel_code ClosedCancel = 3
cancel_code CanceledCancel = 4
cancel_code RejectedCancel = 5
cancel_code (NotedCancel w) = note_code w

-- each line ended by a line feed
abbrev pub lines_of : List Bytes → Bytes
lines_of details = flat_map (λ (line : Bytes). line ++ 10 ∷ []) details

-- kind 0 is of a deployment, kind 1 of a cancel
abbrev pub kind_code : Said → ℕ
kind_code (OfDeployment word) = 0
kind_code (OfCancel word) = 1

abbrev pub word_code : Said → ℕ
word_code (OfDeployment word) = deployment_code word
word_code (OfCancel word) = cancel_code word

-- what is told of feedback
abbrev pub told_entry : HistoryEntry → Row
told_entry entry = Int (pos (kind_code entry.said)) ∷ Int (pos (word_code entry.said)) ∷ Text (lines_of entry.details) ∷ []

-- at a place of an action's history
abbrev pub entry_row : ℕ → ℕ → HistoryEntry → Row
entry_row = part_row told_entry

-- the entries of an action's history, without their numbers
abbrev pub entries_of : ActionRecord → List HistoryEntry
entries_of a = entries_in a.history

-- .. of an action that is there
abbrev pub history_of : Option ActionRecord → List HistoryEntry
history_of found = parts_of entries_of found
