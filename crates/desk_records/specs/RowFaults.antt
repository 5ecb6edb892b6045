-- What a row that can't be read makes of a call.
use Rattle.std.specs.Prelude.{◌≡◌, Option, Some}
use Rattle.sql_calls.specs.declared.fault.Fault.{Fault}
use Rattle.sql_calls.specs.declared.fault.Fault.TheVariants.{Broken, Memory, Store}
use Rattle.desk_records.specs.declared.module_row.RowFault.{RowFault}
use Rattle.desk_records.specs.declared.module_row.RowFault.TheVariants as row
use Rattle.desk_records.specs.declared.table_columns.Column.{Column}

-- a row that breaks a column's rule is broken: it isn't what was written
abbrev pub fault_of_row : RowFault → Fault
fault_of_row row.Memory = Memory
fault_of_row (row.Broken c) = Broken

-- a column breaks its rule
pub record BreaksRule (column : Option Column) : Type 0 where
  pub first : Column
  pub is : column ≡ Some first

abbrev pub IfBroken : RowFault → Type 0 → Type 0
IfBroken row.Memory Why = Unit {0}
IfBroken (row.Broken c) Why = Why

abbrev pub IfRowsBroken : Fault → Type 0 → Type 0
IfRowsBroken Memory Why = Unit {0}
IfRowsBroken Store Why = ⊥
IfRowsBroken Broken Why = Why
