-- The fault that an error is.
use Rattle.sqlite.specs.declared.error.Error.{Error}
use Rattle.sqlite.specs.declared.error.Error.TheVariants.{SqliteFailure, SqlInputError, MultipleStatement, InvalidParameterCount, InvalidQuery}
use Rattle.sqlite.specs.declared.error.ErrorCode.TheVariants.{OutOfMemory, NoClock}
use Rattle.sql_calls.specs.declared.fault.Fault.{Fault}
use Rattle.sql_calls.specs.declared.fault.Fault.TheVariants.{Broken, Memory, Store}

abbrev pub fault_named : Error → Fault
fault_named (SqliteFailure OutOfMemory) = Memory
fault_named _ = Store

-- .. of a query: a text that isn't understood, that is no query or takes other parameters is Broken
abbrev pub fault_asked : Error → Fault
fault_asked (SqlInputError e) = Broken
fault_asked MultipleStatement = Broken
fault_asked (InvalidParameterCount given wanted) = Broken
fault_asked InvalidQuery = Broken
fault_asked (SqliteFailure NoClock) = Broken
fault_asked e = fault_named e

-- .. of a value that is read of a row
abbrev pub broken_named : Error → Fault
broken_named (SqliteFailure OutOfMemory) = Memory
broken_named _ = Broken
