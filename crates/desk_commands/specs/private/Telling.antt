-- What is told of an action: its history's new entry, and the number that the entry bears.
use Rattle.std.specs.Prelude.{◌≡◌, ℕ, ◌+◌, true, cond, List, [], ◌∷◌, ◌++◌, length, Option, Some, None, is_some, ⊤}
use Rattle.rollout_machine.specs.ByteStrings.{item_numbered}
use Rattle.rollout_machine.specs.Reports.{Reported}
use Rattle.rollout_machine.specs.declared.records.ActionRecord.{ActionRecord}
use Rattle.desk_records.specs.Actions.{Tally}
use Rattle.desk_records.specs.FeedbackNumbers.{borne_at}
use Rattle.desk_records.specs.Holds.{Ledger}
use Rattle.desk_records.specs.LedgerSteps.{set_numbered, with_actions, with_numbers}
use Rattle.desk_records.specs.NewEntries.{TellsEntry}
use Rattle.desk_records.specs.declared.number_row.PlacedNumber.{PlacedNumber}
use Rattle.desk_commands.specs.declared.counts.Counts.{Counts}
use Rattle.desk_commands.specs.declared.telling.Told.{Told}

-- ---- what it says

-- feedback tells one report, a command of an operator none
abbrev pub TellsReports : List Reported → Option Told → Type 0
TellsReports [] None = ⊤
TellsReports (reported ∷ []) (Some told) = TellsEntry reported told.entry
TellsReports _ _ = ⊥

-- how many notes and entries there are once this was told
abbrev pub notes_by : Option Told → ℕ → ℕ
notes_by None notes = notes
notes_by (Some told) notes = notes + cond told.entry.is_note 1 0

abbrev pub entries_by : Option Told → ℕ → ℕ
entries_by None entries = entries
entries_by (Some told) entries = entries + 1

abbrev pub tally_by : Option Told → Tally → Tally
tally_by told t = record { notes = notes_by told t.notes; entries = entries_by told t.entries }

-- the number that its entry bears
abbrev pub number_told : Option Told → Option ℕ
number_told None = None
number_told (Some told) = told.entry.number

-- where it bears one, the numbers before are counted
abbrev pub CountsNumbers : Option Told → List PlacedNumber → Type 0
CountsNumbers None numbers = ⊤
CountsNumbers (Some told) numbers = is_some told.entry.number ≡ true → told.numbers ≡ length numbers

-- so many where there is a number
abbrev pub if_numbered : Option ℕ → ℕ → ℕ
if_numbered None n = 0
if_numbered (Some number) n = n

-- how many numbers there are once this was told
abbrev pub numbers_told : Option Told → ℕ
numbers_told None = 0
numbers_told (Some told) = if_numbered told.entry.number (told.numbers + 1)

-- ---- what is written

abbrev pub with_reports : List Reported → ActionRecord → ActionRecord
with_reports reports a = record a { history = a.history ++ reports }

-- the numbers of an action once this was told, as the entry of this place
abbrev pub numbers_by : ℕ → Option Told → List PlacedNumber → List PlacedNumber
numbers_by place None numbers = numbers
numbers_by place (Some told) numbers = numbers ++ borne_at place told.entry.number

-- the number of what was told is put behind those of action k
pub record WritesNumber (k : ℕ) (counts : Counts) (told : Told) (l next : Ledger) : Type 0 where
  pub numbers : List PlacedNumber
  pub are_its : item_numbered l.numbers k ≡ Some numbers
  pub counted : CountsNumbers (Some told) numbers
  pub numbers_are : counts.numbers ≡ numbers_told (Some told)
  pub next_is : next ≡ with_numbers l (set_numbered l.numbers k (numbers_by counts.entries (Some told) numbers))

-- what was told is put behind the history of action k, and its number behind the numbers; the action's tally stays
pub record WritesTold (k : ℕ) (counts : Counts) (told : Option Told) (l next : Ledger) : Type 0 where
  pub reports : List Reported
  pub tells : TellsReports reports told
  pub action : ActionRecord
  pub is_there : item_numbered l.records.actions k ≡ Some action
  pub place_is : counts.entries ≡ entries_by told (length action.history)
  pub numbers : List PlacedNumber
  pub are_its : item_numbered l.numbers k ≡ Some numbers
  pub counted : CountsNumbers told numbers
  pub numbers_are : counts.numbers ≡ numbers_told told
  pub next_is : next ≡ with_numbers (with_actions l (set_numbered l.records.actions k (with_reports reports action)) l.tallies)
      (set_numbered l.numbers k (numbers_by counts.entries told numbers))
