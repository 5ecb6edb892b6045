-- Why a row gives no record.
use Rattle.sqlite.specs.declared.error.Error.{Error}
use Rattle.sqlite.specs.declared.error.Error.TheVariants.{SqliteFailure}
use Rattle.sqlite.specs.declared.error.ErrorCode.TheVariants.{OutOfMemory}
use Rattle.desk_records.specs.declared.module_row.RowFault.{RowFault}
use Rattle.desk_records.specs.declared.module_row.RowFault.TheVariants.{Memory, Broken}
use Rattle.desk_records.specs.declared.table_columns.Column.{Column}

-- the fault that an error of a column is
abbrev pub fault_at : Error → Column → RowFault
fault_at (SqliteFailure OutOfMemory) c = Memory
fault_at _ c = Broken c
