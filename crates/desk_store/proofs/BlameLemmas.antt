-- What broken rows are blamed on, by what was read before.
use Rattle.desk_store.proofs.Common.{arith, Result, IfErr, Ok, Ghosts, Fault, Tables, BlamesGiven, FindsTables, HoldsTables, IfRowsBroken, IsUnreadable}
use Rattle.desk_store.proofs.Common.{HasUnreadable, Calls, Reading, ReadsOf, State, Finds, Sees}
use Rattle.desk_store.specs.Blaming.{HoldsReading}
use Rattle.desk_store.specs.Unreadable.{place_of}
use Rattle.desk_store.proofs.ReadLemmas.{first_sees, ask_sees, few_sees, first_keeps, ask_keeps, few_keeps}
use Rattle.desk_store.proofs.FailLemmas.{breaks_by}

-- what can't be read of a table that is read
pub unread : (reading : Reading) (what : IsUnreadable reading.tables) → ReadsOf (place_of what) reading → HasUnreadable reading
unread reading what given = record { what = what; there = given.is_read }

-- ---- what is read stands in the tables

module _ {s : State} (reading : Reading) where
  pub to_tables : Sees HoldsReading s reading → Sees HoldsTables s reading.tables
  to_tables seen = record { sees = λ clean. (let it = seen.sees clean in record { mode = it.mode; is_open = it.is_open; now_holds = it.now_holds }) }

  pub of_tables : Sees HoldsTables s reading.tables → Sees HoldsReading s reading
  of_tables seen = record { sees = λ clean. (let it = seen.sees clean in record { mode = it.mode; is_open = it.is_open; now_holds = it.now_holds }) }

-- by which the check finds what each statement leaves
pub ruleset statement_keeps = (first_sees, ask_sees, few_sees, first_keeps, ask_keeps, few_keeps, to_tables, of_tables)

pub found_reading : {A : Type 0} {a b : State} {x : A} {P : Tables → A → Type 0} → Finds HoldsTables (λ (t : Tables). t) {E = Fault} a b (Ok x) P
    → Finds HoldsReading (λ (r : Reading). r) {E = Fault} a b (Ok x) (λ reading y. P reading.tables y)
found_reading read = grind (arith, to_tables, of_tables)

-- ---- what is blamed

-- on what was found
module _ {S A : Type 0} {g : Ghosts S} {Given : Reading → Type 0} {old new : Calls S} where
  pub blamed : {B : Type 0} {x : A} {P : Tables → A → Type 0} → FindsTables g {E = Fault} old new (Ok x) P → (out : Result B Fault)
      → IfErr out (λ fault. IfRowsBroken fault ((reading : Reading) → P reading.tables x → Given reading → HasUnreadable reading))
      → BlamesGiven g Given old new out
  blamed read out why = breaks_by (found_reading read) out why
