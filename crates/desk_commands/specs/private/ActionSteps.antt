-- What an accepted command on an action makes of a ledger.
use Rattle.std.specs.Prelude.{◌≡◌, ℕ, Bool, false, not, cond, List, length, Option, Some, None}
use Rattle.std.specs.List.{zip}
use Rattle.rollout_machine.specs.ByteStrings.{item_numbered}
use Rattle.rollout_machine.specs.Reports.{Reported}
use Rattle.rollout_machine.specs.declared.outcome.Outcome.{Outcome}
use Rattle.rollout_machine.specs.declared.records.ActionRecord.{ActionRecord}
use Rattle.campaign_core.specs.RolloutChecks.{action_with}
use Rattle.campaign_core.specs.declared.rollout_checks.actions.ActionChange.{ActionChange}
use Rattle.campaign_core.specs.declared.rollout_checks.actions.ActionChange.TheVariants.{StaysOpen, Ends}
use Rattle.desk_records.specs.Actions.{Tally}
use Rattle.desk_records.specs.Holds.{Ledger}
use Rattle.desk_records.specs.LedgerSteps.{set_numbered, with_actions, with_numbers}
use Rattle.desk_records.specs.NewEntries.{TellsEntry}
use Rattle.desk_records.specs.RolloutRow.{stored_action}
use Rattle.desk_commands.specs.private.Endings.{FollowsChange}
use Rattle.desk_commands.specs.private.Offering.{MayReoffer}
use Rattle.desk_commands.specs.private.Telling.{CountsNumbers, TellsReports, entries_by, numbers_by, tally_by, with_reports}
use Rattle.desk_records.specs.declared.number_row.PlacedNumber.{PlacedNumber}
use Rattle.desk_commands.specs.declared.seen_actions.SeenAction.{SeenAction}
use Rattle.desk_commands.specs.declared.telling.Told.{Told}

-- ---- the action and its history

abbrev pub canceling_by : ActionChange → Bool
canceling_by (StaysOpen canceling) = canceling
canceling_by (Ends e) = false

abbrev pub outcome_by : Option Outcome → ActionChange → Option Outcome
outcome_by had (StaysOpen canceling) = had
outcome_by had (Ends e) = Some e.outcome

-- the ledger once what was reported is told of an action and it changed, with these numbers before
abbrev pub with_changed_action : SeenAction → ActionChange → Option Told → List Reported → ActionRecord × Tally → List PlacedNumber → Ledger → Ledger
with_changed_action seen after told reports action numbers l = with_numbers
    (with_actions l (set_numbered l.records.actions seen.number (with_reports reports (action_with after action.0)))
    (set_numbered l.tallies seen.number (tally_by told action.1)))
    (set_numbered l.numbers seen.number (numbers_by (entries_by told action.1.entries) told numbers))

-- the action is there as it was seen, with the tally of its history, and gets entry, number, outcome and canceling
pub record TellsAction (seen : SeenAction) (after : ActionChange) (told : Option Told) (l next : Ledger) : Type 0 where
  pub reports : List Reported
  pub tells : TellsReports reports told
  pub action : ActionRecord × Tally
  pub is_there : item_numbered (zip l.records.actions l.tallies) seen.number ≡ Some action
  pub seen_as : seen.action ≡ stored_action l.records.rollouts action
  pub tallied : action.1.entries ≡ length action.0.history
  pub numbers : List PlacedNumber
  pub are_its : item_numbered l.numbers seen.number ≡ Some numbers
  pub counted : CountsNumbers told numbers
  pub next_is : next ≡ with_changed_action seen after told reports action numbers l

-- ---- all of it

-- it stays open, and is canceling or not as it was
abbrev pub stays_offered : Bool → ActionChange → Bool
stays_offered had (StaysOpen canceling) = cond canceling had (not had)
stays_offered had (Ends e) = false

-- the action is written, then what its target is offered by the records, and then what follows
pub record Acts (seen : SeenAction) (after : ActionChange) (told : Option Told) (l next : Ledger) : Type 0 where
  pub acted : Ledger
  pub tells : TellsAction seen after told l acted
  pub offered : Ledger
  pub offers : MayReoffer (stays_offered seen.action.canceling after) seen.action.target seen.number acted offered
  pub follows : FollowsChange seen after offered next

-- accepted feedback is told as it was reported, with so many numbers before, where something becomes of the action
abbrev pub WritesFeedback : SeenAction → Option ActionChange → ℕ → Reported → Ledger → Ledger → Type 0
WritesFeedback seen None numbers new l next = next ≡ l
WritesFeedback seen (Some after) numbers new l next = (told : Told) → TellsEntry new told.entry → told.numbers ≡ numbers → Acts seen after (Some told) l next
