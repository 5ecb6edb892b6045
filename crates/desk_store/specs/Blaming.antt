-- What broken rows are blamed on, in a change that only reads whatever rows there are.
use Rattle.std.specs.Prelude.{◌≡◌, ◌<◌, ◌≤◌, ◌-◌, ◌^◌, ◌⊎◌, ℕ, Bool, true, Result}
use Rattle.sqlite.specs.Effect.{Database}
use Rattle.sqlite.specs.Store.{Ghosts}
use Rattle.sql_calls.specs.declared.calls.Calls.{Calls}
use Rattle.sql_calls.specs.declared.fault.Fault.{Fault}
use Rattle.desk_records.specs.Schema.{Place}
use Rattle.desk_records.specs.Tables.{HoldsTables, Tables}
use Rattle.desk_store.specs.Breaking.{BreaksOnly}
use Rattle.desk_store.specs.Unreadable.{IsUnreadableIn}

-- more calls of the store failed than before, or as many as are counted
abbrev pub HasFailed : ℕ → ℕ → Type 0
HasFailed before now = (before < now) ⊎ (2 ^ 64 - 1 ≤ now)

-- ---- what is read

-- tables, and those of them that are read
pub record Reading : Type 0 where
  pub tables : Tables
  pub reads : Place → Bool

-- this one is read
pub record ReadsOf (place : Place) (reading : Reading) : Type 0 where
  pub is_read : reading.reads place ≡ true

-- its tables stand in the database
abbrev pub HoldsReading : Database → Reading → Type 0
HoldsReading db reading = HoldsTables db reading.tables

-- a table that is read has something that can't be
abbrev pub HasUnreadable : Reading → Type 0
HasUnreadable reading = IsUnreadableIn reading.reads reading.tables

-- ---- what is blamed

module _ {S : Type 0} (g : Ghosts S) where
  -- What a caller gives is which tables are read, and what else it knows of them.
  abbrev pub BlamesGiven : (Reading → Type 0) → {A : Type 0} → Calls S → Calls S → Result A Fault → Type 0
  BlamesGiven Given = BreaksOnly g HoldsReading Given HasUnreadable

  -- whatever is read
  abbrev pub Blames : {A : Type 0} → Calls S → Calls S → Result A Fault → Type 0
  Blames = BlamesGiven (λ reading. Unit {0})
