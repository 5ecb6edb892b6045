-- Why a database is not opened as a desk: the number and the word of each fault, and which a failed call is.
use Rattle.std.specs.Prelude.{ℕ, List, codes}
use Rattle.sql_calls.specs.declared.fault.Fault.{Fault}
use Rattle.sql_calls.specs.declared.fault.Fault.TheVariants as fault
use Rattle.desk_opening.specs.declared.opening.OpenFault.{OpenFault}
use Rattle.desk_opening.specs.declared.opening.OpenFault.TheVariants.{NotDesk, NewerVersion, Memory, Store}

pub record FaultRow : Type 0 where
  pub number : ℕ
  pub name : List ℕ

abbrev pub fault_row : OpenFault → FaultRow
fault_row NotDesk = record { number = 1; name = codes "not_desk" }
fault_row NewerVersion = record { number = 2; name = codes "newer_version" }
fault_row Memory = record { number = 3; name = codes "memory" }
fault_row Store = record { number = 4; name = codes "store" }

-- a call that failed is a failed store, unless it was out of memory
abbrev pub open_fault : Fault → OpenFault
open_fault fault.Memory = Memory
open_fault fault.Store = Store
open_fault fault.Broken = Store
