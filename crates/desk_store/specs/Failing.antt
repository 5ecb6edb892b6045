-- Ledgers in which no rows are broken.
use Rattle.std.specs.Prelude.{◌≡◌, ◌≤◌, length, Result}
use Rattle.sqlite.specs.Store.{Ghosts}
use Rattle.sql_calls.specs.declared.calls.Calls.{Calls}
use Rattle.sql_calls.specs.declared.fault.Fault.{Fault}
use Rattle.rollout_model.specs.Limits.{limits}
use Rattle.desk_records.specs.Holds.{HoldsLedger, Ledger}
use Rattle.desk_records.specs.Schema.{Place}
use Rattle.desk_store.specs.Breaking.{BreaksFirst, BreaksOnly, NeverBreaks}
use Rattle.desk_store.specs.Changing.{StaysIn}
use Rattle.desk_store.specs.Readable.{IsReadable, KeepsColumns}

-- a ledger that can be read, and is as given
pub record ReadableAs (Given : Ledger → Type 0) (l : Ledger) : Type 0 where
  pub readable : IsReadable l
  pub given : Given l

abbrev pub nothing : Ledger → Type 0
nothing l = ⊥

module _ {S : Type 0} (g : Ghosts S) where
  -- where it can be read, broken rows are never told
  abbrev pub FailsIn : {A : Type 0} → Calls S → Calls S → Result A Fault → Type 0
  FailsIn = BreaksOnly g HoldsLedger IsReadable nothing

  -- whether or not it can be read
  abbrev pub NeverFails : {A : Type 0} → Calls S → Calls S → Result A Fault → Type 0
  NeverFails = BreaksOnly g HoldsLedger (λ l. Unit {0}) nothing

  -- the same where the columns of one table keep their rules
  abbrev pub FailsKeeping : Place → {A : Type 0} → Calls S → Calls S → Result A Fault → Type 0
  FailsKeeping place = BreaksOnly g HoldsLedger (KeepsColumns place) nothing

  abbrev pub FailsGiven : (Ledger → Type 0) → {A : Type 0} → Calls S → Calls S → Result A Fault → Type 0
  FailsGiven Given = BreaksOnly g HoldsLedger (ReadableAs Given) nothing

  -- what only writes: what stays, and that broken rows are never told
  pub record WritesIn {A : Type 0} (old new : Calls S) (result : Result A Fault) : Type 0 where
    pub stays : StaysIn g old new result
    pub sound : NeverBreaks g new result

  -- whether or not all of it can be read
  abbrev pub FailsSeeing : (Ledger → Type 0) → {A : Type 0} → Calls S → Calls S → Result A Fault → Type 0
  FailsSeeing Given = BreaksFirst g HoldsLedger Given nothing

-- each action has its tally, and a number within the limit
pub record AreActionsNumbered (l : Ledger) : Type 0 where
  pub tallied : length l.tallies ≡ length l.records.actions
  pub few : length l.records.actions ≤ limits.number
