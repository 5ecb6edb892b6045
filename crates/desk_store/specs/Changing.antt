-- What a call comes to inside a change that is under way, by the calls of the connection before it and after it.
use Rattle.std.specs.Prelude.{Result, Ok, Err}
use Rattle.sqlite.specs.Store.{Ghosts}
use Rattle.sqlite.specs.Held.{state}
use Rattle.sqlite.specs.State.{State}
use Rattle.sql_calls.specs.Calls.{Grows, failures_in}
use Rattle.sql_calls.specs.Standing.{Finds, FrameTo, Makes, Sees}
use Rattle.sql_calls.specs.declared.calls.Calls.{Calls}
use Rattle.sql_calls.specs.declared.fault.Fault.{Fault}
use Rattle.rollout_machine.specs.Records.{Records}
use Rattle.desk_records.specs.Holds.{HoldsLedger, Ledger, ledger_of}
use Rattle.desk_records.specs.Tables.{HoldsTables, Tables}

-- after Ok the tables that were seen are seen, whatever rows they have
abbrev pub KeepsSeenTables : {A : Type 0} → State → State → Result A Fault → Type 0
KeepsSeenTables old new (Ok a) = (t : Tables) → Sees HoldsTables old t → Sees HoldsTables new t
KeepsSeenTables old new (Err fault) = Unit {0}

module _ {S : Type 0} (g : Ghosts S) where
  -- the connection of the calls
  abbrev pub seen_in : Calls S → State
  seen_in calls = state g calls.conn

  -- No count falls; a call of the store failed only where the result says so. Ok leaves the change open; after an error it can only be given
  -- up, and a crash leaves what it would have left before.
  pub record StaysIn {A : Type 0} (old new : Calls S) (result : Result A Fault) : Type 0 where
    pub grows : Grows (failures_in result) old new
    pub frame : FrameTo HoldsLedger (seen_in old) (seen_in new) result

  -- the ledger answers, and stays as it is
  abbrev pub FindsLedger : {A E : Type 0} → Calls S → Calls S → Result A E → (Ledger → A → Type 0) → Type 0
  FindsLedger old new result Answer = Finds HoldsLedger (λ (l : Ledger). l) (seen_in old) (seen_in new) result Answer

  -- the records answer, and stay as they are
  abbrev pub FindsIn : {A E : Type 0} → Calls S → Calls S → Result A E → (Records → A → Type 0) → Type 0
  FindsIn old new result Answer = Finds HoldsLedger ledger_of (seen_in old) (seen_in new) result Answer

  -- the next ledger is made
  abbrev pub MakesLedger : {A E : Type 0} → Calls S → Calls S → Result A E → (Ledger → Ledger → Type 0) → Type 0
  MakesLedger old new result Change = Makes HoldsLedger (λ (l : Ledger). l) (seen_in old) (seen_in new) result Change

  -- the next records are made
  abbrev pub MakesIn : {A E : Type 0} → Calls S → Calls S → Result A E → (Records → Records → Type 0) → Type 0
  MakesIn old new result Change = Makes HoldsLedger ledger_of (seen_in old) (seen_in new) result Change

  -- the tables answer, whatever rows they have, and stay as they are
  abbrev pub FindsTables : {A E : Type 0} → Calls S → Calls S → Result A E → (Tables → A → Type 0) → Type 0
  FindsTables old new result Answer = Finds HoldsTables (λ (t : Tables). t) (seen_in old) (seen_in new) result Answer

  -- what only reads leaves the tables as they are
  pub record KeepsTables {A : Type 0} (old new : Calls S) (result : Result A Fault) : Type 0 where
    pub to : KeepsSeenTables (seen_in old) (seen_in new) result
