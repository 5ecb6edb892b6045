-- Faults of ends.
use Rattle.std.specs.Prelude.{Result, Ok, Err}
use Rattle.sql_calls.specs.declared.fault.Fault.{Fault}
use Rattle.sql_calls.specs.declared.fault.Fault.TheVariants.{Store}

-- a commit or a rollback that fails is a failed store, want of memory too
abbrev pub as_store : Result (Unit {0}) Fault → Result (Unit {0}) Fault
as_store (Ok _) = Ok tt
as_store (Err fault) = Err Store
