-- What a verification says of the tables, and what it leaves of the desk.
use Rattle.std.specs.Prelude.{◌≡◌, ◌⊎◌, Bool, false, Option, Some, None, Result, Ok, Err, IfOk, ⊤}
use Rattle.sqlite.specs.Held.{state}
use Rattle.sqlite.specs.Store.{Ghosts}
use Rattle.sqlite.specs.State.{State, HasCleanDisk}
use Rattle.sql_calls.specs.Standing.{Doubts, Rests, Shows}
use Rattle.sql_calls.specs.declared.calls.Calls.{Calls}
use Rattle.sql_calls.specs.declared.fault.Fault.{Fault}
use Rattle.rollout_machine.specs.CommandList.{CommandList}
use Rattle.rollout_machine.specs.Records.{Records, records}
use Rattle.rollout_machine.specs.Replies.{Refused as RefusedReply}
use Rattle.rollout_machine.specs.Standing.{Becomes, DeskState, StandsFor}
use Rattle.rollout_machine.specs.StoreFailures.{is_store}
use Rattle.rollout_machine.specs.Validity.{IsValid}
use Rattle.rollout_model.specs.declared.refusal.Refusal.{Refusal}
use Rattle.rollout_model.specs.declared.refusal.Refusal.TheVariants.{StoreFailed}
use Rattle.desk_records.specs.Holds.{HoldsRecords}
use Rattle.desk_records.specs.Tables.{HoldsTables, Tables}
use Rattle.desk_store.specs.Blaming.{HasFailed}
use Rattle.desk_store.specs.Changing.{FindsTables, seen_in}
use Rattle.desk_verify.specs.Agreement.{IsDamage}
use Rattle.desk_verify.specs.Promises.{NamesNone}
use Rattle.desk_verify.specs.Stopping.{IsStuck, StopsInOrder}
use Rattle.desk_verify.specs.declared.damage.CheckedTable.{CheckedTable}
use Rattle.desk_verify.specs.declared.damage.Damage.{Damage}
use Rattle.desk_verify.specs.declared.damage.Damage.TheVariants.{Refused, Table}
use Rattle.rollout_desk.specs.DeskStates.{desk_state}
use Rattle.rollout_desk.specs.Downloads.{IsInterruption}
use Rattle.rollout_desk.specs.Looks.{Looks}
use Rattle.rollout_desk.specs.Working.{TellsFailures, tells_store}
use Rattle.rollout_desk.specs.declared.desk.Desk.{Desk}

-- ---- inside a change

-- what was found is the first table that doesn't agree, whatever tables are shown
abbrev pub FindsDamage : State → State → Result (Option CheckedTable) Refusal → Type 0
FindsDamage old new result = IfOk result (λ found. (t : Tables) → HasCleanDisk new → Shows HoldsTables old t → IsDamage t found)

-- what a verification reads: the first table that doesn't agree, none of those of accepted commands, or why it stopped
pub record ReadsDamage {S : Type 0} (g : Ghosts S) (old new : Calls S) (result : Result (Option CheckedTable) Fault) : Type 0 where
  pub judges : FindsTables g old new result IsDamage
  pub never : NamesNone (seen_in g old) (seen_in g new) result
  pub stops : StopsInOrder g old new result

-- the records of accepted commands are never damaged
abbrev pub IsNeverDamaged : Records → Option CheckedTable → Type 0
IsNeverDamaged r found = (h : CommandList) → IsValid h → r ≡ records h → found ≡ None

-- a call of the store failed; or of whatever tables are shown, those before some table agree, and what its check reads can't be read
abbrev pub HasCause : {S : Type 0} → Ghosts S → Calls S → Calls S → Type 0
HasCause g old new =
    (t : Tables) → HasCleanDisk (state g new.conn) → Shows HoldsTables (state g old.conn) t → HasFailed old.failures new.failures ⊎ IsStuck t

-- Damage was looked for, and why a failed store is told.
pub record LooksForDamage {S : Type 0} (g : Ghosts S) (old new : Calls S) (result : Result (Option CheckedTable) Refusal) : Type 0 where
  pub judges : FindsDamage (state g old.conn) (state g new.conn) result
  pub looks : Looks HoldsRecords (state g old.conn) (state g new.conn) result IsNeverDamaged
  pub blames : result ≡ Err StoreFailed → HasCause g old new
  pub tells : TellsFailures (tells_store result) old new

-- ---- the desk

-- all agree, or this one is the first that doesn't
abbrev pub SaysOf : Tables → Result (Unit {0}) Damage → Type 0
SaysOf t (Ok done) = IsDamage t None
SaysOf t (Err (Table table)) = IsDamage t (Some table)
SaysOf t (Err (Refused refusal)) = ⊤

-- It is said of the tables that are shown, whatever rows they have.
abbrev pub Judges : {S : Type 0} → Ghosts S → Desk S → Desk S → Result (Unit {0}) Damage → Type 0
Judges g old new result =
    (t : Tables) → HasCleanDisk (state g new.store.calls.conn) → Shows HoldsTables (state g old.store.calls.conn) t → SaysOf t result

-- a desk that stands for the list goes on, and isn't told of a table; or it is what a refusal makes of it
abbrev pub GoesOn : {File : Type 0} → CommandList → DeskState File → Result (Unit {0}) Damage → Type 0
GoesOn h new (Ok done) = StandsFor new h
GoesOn h new (Err (Table table)) = ⊥
GoesOn h new (Err (Refused refusal)) = Becomes new h (RefusedReply refusal) None

abbrev pub KeepsDesk : {S : Type 0} → Ghosts S → Desk S → Desk S → Result (Unit {0}) Damage → Type 0
KeepsDesk g old new result = (h : CommandList) → (desk_state g new).is_clean → StandsFor (desk_state g old) h → GoesOn h (desk_state g new) result

-- a table, or why none was found out
abbrev pub MayTell : Bool → Damage → Type 0
MayTell was_stopped (Table table) = ⊤
MayTell was_stopped (Refused refusal) = IsInterruption was_stopped refusal

-- whether a failed store is told
abbrev pub tells_damage : Result (Unit {0}) Damage → Bool
tells_damage (Err (Refused refusal)) = is_store refusal
tells_damage _ = false

-- Whatever records the tables hold, be they damaged, they hold them afterwards; where the store failed, whatever a crash leaves does.
abbrev pub SparesRecords : {S : Type 0} → Ghosts S → Desk S → Desk S → Result (Unit {0}) Damage → Type 0
SparesRecords g old new result = (r : Records) → Rests HoldsRecords (state g old.store.calls.conn) r
    → Rests HoldsRecords (state g new.store.calls.conn) r
    ⊎ ((result ≡ Err (Refused StoreFailed)) × Doubts HoldsRecords (state g new.store.calls.conn) r r)
