-- How a report stands among what its action has heard, and what asking for that costs.
use Rattle.std.specs.Prelude.{◌≡◌, ◌<◌, ℕ, ◌+◌, true, cond, List, length, Option, Some, None, is_none, is_some, Result, Ok, Err}
use Rattle.rollout_machine.specs.ByteStrings.{item_numbered}
use Rattle.rollout_machine.specs.Records.{Records}
use Rattle.rollout_machine.specs.Reports.{HistoryEntry, Reported, against, standing_of}
use Rattle.sql_calls.specs.declared.fault.Fault.{Fault}
use Rattle.rollout_machine.specs.declared.standing.Standing.{Standing}
use Rattle.rollout_machine.specs.declared.standing.Standing.TheVariants.{Fresh, Old}
use Rattle.rollout_machine.specs.declared.records.ActionRecord.{ActionRecord}
use Rattle.campaign_core.specs.RolloutChecks.{says_fresh}
use Rattle.desk_records.specs.Actions.{history_of}
use Rattle.desk_records.specs.FeedbackNumbers.{numbers_from}
use Rattle.desk_records.specs.declared.number_row.PlacedNumber.{PlacedNumber}
use Rattle.desk_commands.specs.declared.reports.SeenReport.{SeenReport}
use Rattle.desk_commands.specs.declared.seen_actions.SeenAction.{SeenAction}

-- so among these, whose numbers are counted where it bears one
pub record StandsAmong (reports : List Reported) (new : Reported) (seen : SeenReport) : Type 0 where
  pub standing : seen.standing ≡ standing_of reports new
  pub numbers : is_some new.number ≡ true → seen.numbers ≡ length (numbers_from 1 reports)

-- among those of action k, where that is there
abbrev pub StandsAt : ℕ → Reported → Records → SeenReport → Type 0
StandsAt k new r seen = (a : ActionRecord) → item_numbered r.actions k ≡ Some a → StandsAmong a.history new seen

-- an entry of this number, where the last number of action k is this one
abbrev pub StandsAgainst : ℕ → PlacedNumber → ℕ → HistoryEntry → Records → Standing → Type 0
StandsAgainst k last number new r standing = (entry : HistoryEntry)
    → item_numbered (history_of (item_numbered r.actions k)) last.sequence ≡ Some entry
    → standing ≡ against (Some (record { entry = entry; number = last.number })) number new

-- of another number than the last one it stands by the numbers alone: nothing is asked for it, so nothing fails
abbrev pub StandsApart : ℕ → ℕ → Result Standing Fault → Type 0
StandsApart last number result = (last < number → result ≡ Ok Fresh) × (number < last → result ≡ Ok Old)

abbrev pub with_number : Reported → Option ℕ → Reported
with_number new number = record new { number = number }

-- on an open action its number is asked for, on another none
abbrev pub number_asked : Option SeenAction → Option ℕ → Option ℕ
number_asked None number = None
number_asked (Some seen) number = cond (is_none seen.action.outcome) number None

abbrev pub asked : Option SeenAction → Reported → Reported
asked seen new = with_number new (number_asked seen new.number)

-- ---- what it costs

abbrev pub standing_in : {A E : Type 0} → (A → Standing) → Result A E → Option Standing
standing_in standing (Ok seen) = Some (standing seen)
standing_in standing (Err e) = None

-- the entry that bears the last number is read, but where the report is new
abbrev pub more_reads : Option Standing → ℕ
more_reads None = 1
more_reads (Some standing) = cond (says_fresh standing) 0 1

-- the last number is read where it bears one itself
abbrev pub reads_for : Option ℕ → Option Standing → ℕ
reads_for None standing = 0
reads_for (Some number) standing = 1 + more_reads standing
