-- When a step of a command is a failed store: where the ledger that is seen can be read, only where a call of the database failed, which is
-- counted.
use Rattle.std.specs.Prelude.{◌≡◌, ℕ, true, List, Some, option_map, Result}
use Rattle.std.specs.List.{list_all, zip}
use Rattle.sqlite.specs.Store.{Ghosts}
use Rattle.sql_calls.specs.declared.fault.Fault.{Fault}
use Rattle.rollout_machine.specs.ByteStrings.{item_numbered}
use Rattle.rollout_model.specs.Rows.{is_target_row}
use Rattle.rollout_machine.specs.Commands.{TargetRow}
use Rattle.rollout_machine.specs.RecordSteps.{last_started}
use Rattle.rollout_machine.specs.Verdicts.{target_of}
use Rattle.rollout_machine.specs.declared.records.RolloutRecord.{RolloutRecord}
use Rattle.desk_records.specs.FeedbackNumbers.{last_number, numbers_numbered}
use Rattle.desk_records.specs.Holds.{HoldsLedger, Ledger}
use Rattle.desk_records.specs.RolloutRow.{stored_action}
use Rattle.desk_records.specs.declared.rollout_row.StoredAction.{StoredAction}
use Rattle.desk_records.specs.declared.number_row.PlacedNumber.{PlacedNumber}
use Rattle.desk_records.specs.TargetRow.{stored_target}
use Rattle.desk_records.specs.declared.target_row.StoredTarget.{StoredTarget}
use Rattle.desk_store.specs.Breaking.{BreaksFirst}
use Rattle.desk_store.specs.Failing.{ReadableAs, nothing}
use Rattle.desk_store.specs.Readable.{IsReadable}
use Rattle.sql_calls.specs.declared.calls.Calls.{Calls}
use Rattle.desk_reads.specs.AtLists.{IsOfList}
use Rattle.desk_reads.specs.Rollouts.{IsSeenOf}
use Rattle.desk_reads.specs.declared.rollouts.SeenRollout.{SeenRollout}
use Rattle.desk_reads.specs.Counted.{AreCounted}

module _ {S : Type 0} (g : Ghosts S) where
  -- what reads and then writes: where the ledger before can be read, and is as given, broken rows are never told
  abbrev pub FailsWriting : (Ledger → Type 0) → {A : Type 0} → Calls S → Calls S → Result A Fault → Type 0
  FailsWriting Given = BreaksFirst g HoldsLedger (ReadableAs Given) nothing

  -- .. whatever it is
  abbrev pub FailsWritingIn : {A : Type 0} → Calls S → Calls S → Result A Fault → Type 0
  FailsWritingIn = BreaksFirst g HoldsLedger IsReadable nothing

-- ---- steps

-- the ledger is that of a list of accepted commands, with a further place in each history
pub record TakesSteps (l : Ledger) : Type 0 where
  pub of_list : IsOfList l
  pub counted : AreCounted l.records

-- .. from which the change leads to another one
pub record Leads (Change : Ledger → Ledger → Type 0) (l : Ledger) : Type 0 where
  pub takes : TakesSteps l
  pub next : Ledger
  pub changes : Change l next

module _ {S : Type 0} (g : Ghosts S) where
  -- a step: where such a ledger is seen and can be read, a failed store is a call that failed
  abbrev pub FailsStepIn : {A : Type 0} → Calls S → Calls S → Result A Fault → Type 0
  FailsStepIn = FailsWriting g TakesSteps

-- ---- the action that was seen

-- the ledger is that of a list of accepted commands, and this is its action k
pub record IsActionOf (k : ℕ) (action : StoredAction) (l : Ledger) : Type 0 where
  pub of_list : IsOfList l
  pub is_there : Some action ≡ option_map (stored_action l.records.rollouts) (item_numbered (zip l.records.actions l.tallies) k)

-- .. and this is the last number of action k
pub record IsLastOf (k : ℕ) (last : PlacedNumber) (l : Ledger) : Type 0 where
  pub of_list : IsOfList l
  pub place : ℕ
  pub is_last : Some (record { place = place; it = last }) ≡ last_number (numbers_numbered l.numbers k)

-- ---- the rollout that was seen

-- the ledger is that of a list of accepted commands, and this is its rollout r
pub record IsSeenIn (r : ℕ) (seen : SeenRollout) (l : Ledger) : Type 0 where
  pub of_list : IsOfList l
  pub rollout : RolloutRecord
  pub is_there : item_numbered l.records.rollouts r ≡ Some rollout
  pub is_seen : IsSeenOf seen rollout

-- .. and this is the number of its last started group
pub record IsSeenFrom (r : ℕ) (seen : SeenRollout) (last : ℕ) (l : Ledger) : Type 0 where
  pub sees : IsSeenIn r seen l
  pub last_is : last ≡ last_started seen.groups.items

-- ---- rows of targets

-- the ledger is that of a list of accepted commands, and the row keeps its rules
pub record TakesRow (row : TargetRow) (l : Ledger) : Type 0 where
  pub of_list : IsOfList l
  pub row_keeps : is_target_row row ≡ true

-- .. and this is kept of its target
pub record ChangesRow (row : TargetRow) (stored : StoredTarget) (l : Ledger) : Type 0 where
  pub takes : TakesRow row l
  pub stored_is : Some stored ≡ option_map stored_target (target_of l.records row.id)

pub record TakesRows (rows : List TargetRow) (l : Ledger) : Type 0 where
  pub of_list : IsOfList l
  pub rows_keep : list_all is_target_row rows ≡ true
