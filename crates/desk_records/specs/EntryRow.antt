-- What rows of entries of histories are read as.
use Rattle.std.specs.Prelude.{◌≡◌, ◌≢◌, ◌⊎◌, ℕ, pos, Bool, true, false, nat_eq, List, [], ◌∷◌, Option, Some, None, if◌then◌else◌}
use Rattle.std.specs.Option.{is_some, option_map}
use Rattle.sqlite_value.specs.declared.value.Value.{Value}
use Rattle.sqlite_value.specs.declared.value.Value.TheVariants.{Int, Text}
use Rattle.sqlite_value.specs.Order.{Row, column}
use Rattle.rollout_machine.specs.Reports.{HistoryEntry, Said, OfDeployment, OfCancel}
use Rattle.rollout_machine.specs.Commands.{Bytes, DeploymentWord, CancelWord, Proceeding, Scheduled, Resumed, Succeeded, Failed, Rejected, Noted}
use Rattle.rollout_machine.specs.Commands.{ClosedCancel, CanceledCancel, RejectedCancel, NotedCancel}
use Rattle.rollout_model.specs.Rules.{are_details}
use Rattle.desk_records.specs.Actions.{lines_of}
use Rattle.desk_records.specs.Columns.{has_size}
use Rattle.desk_records.specs.Codes.{coded_in, first_broken, flag_in}
use Rattle.desk_records.specs.declared.entry_row.SequencedEntry.{SequencedEntry}
use Rattle.desk_records.specs.declared.table_columns.Column.{Column}
use Rattle.desk_records.specs.declared.table_columns.Column.TheVariants as rule

abbrev pub deployment_from : ℕ → Option DeploymentWord
deployment_from n = if nat_eq n 0 then Some (Noted Proceeding) else
    (if nat_eq n 1 then Some (Noted Scheduled) else (if nat_eq n 2 then Some (Noted Resumed) else
    (if nat_eq n 3 then Some Succeeded else (if nat_eq n 4 then Some Failed else (if nat_eq n 5 then Some Rejected else None)))))

abbrev pub cancel_from : ℕ → Option CancelWord
cancel_from n = if nat_eq n 0 then Some (NotedCancel Proceeding) else
    (if nat_eq n 1 then Some (NotedCancel Scheduled) else (if nat_eq n 2 then Some (NotedCancel Resumed) else
    (if nat_eq n 3 then Some ClosedCancel else (if nat_eq n 4 then Some CanceledCancel else (if nat_eq n 5 then Some RejectedCancel else None)))))

abbrev pub deployment_in : Value → Option DeploymentWord
deployment_in = coded_in deployment_from

abbrev pub cancel_in : Value → Option CancelWord
cancel_in = coded_in cancel_from

-- the details keep their rule
abbrev pub keeps_details : HistoryEntry → Bool
keeps_details entry = are_details entry.details

-- what is said by a word of this kind
abbrev pub said_by : Option Bool → Value → Option Said
said_by (Some false) word = option_map OfDeployment (deployment_in word)
said_by (Some true) word = option_map OfCancel (cancel_in word)
said_by None word = None

abbrev pub said_in : Row → Option Said
said_in row = said_by (flag_in (column row 0)) (column row 1)

-- the row of kind, word and details
abbrev pub IsEntryRow : Row → HistoryEntry → Type 0
IsEntryRow row entry = (said_in row ≡ Some entry.said) × (column row 2 ≡ Text (lines_of entry.details)) × (keeps_details entry ≡ true)

-- the value is no text of details, each line ended by a line feed
abbrev pub HasNoDetails : Value → Type 0
HasNoDetails v = (details : List Bytes) → are_details details ≡ true → v ≢ Text (lines_of details)

-- kind or word, whichever breaks its rule first
abbrev pub broken_word : Row → Option Column
broken_word row = first_broken ((is_some (flag_in (column row 0)), rule.EntryKind)
    ∷ (is_some (said_in row), rule.EntryWord) ∷ [])

-- the first column that breaks its rule
abbrev pub BreaksEntry : Row → Column → Type 0
BreaksEntry row c = (broken_word row ≡ Some c) ⊎ ((broken_word row ≡ None) × (c ≡ rule.EntryDetails) × HasNoDetails (column row 2))

-- the row of an entry with its sequence at the end
pub record IsSequencedRow (row : Row) (sequenced : SequencedEntry) : Type 0 where
  pub entry : IsEntryRow row sequenced.entry
  pub sequence : column row 3 ≡ Int (pos sequenced.sequence)

-- the sequence breaks its rule, or it keeps it and this is the first of the others that breaks its own
abbrev pub BreaksSequenced : Row → Column → Type 0
BreaksSequenced row c = ((has_size (column row 3) ≡ false) × (c ≡ rule.EntrySequence)) ⊎ ((has_size (column row 3) ≡ true) × BreaksEntry row c)
