use Rattle.desk_opening.proofs.Common.{take, AllByRecursion, StandsSomewhere, table_at, place_of}
use Rattle.desk_opening.proofs.opening.has_tables_of.Given as goal

abbrev pub invariant-loop-table : goal.invariant-loop-table
invariant-loop-table l = AllByRecursion (λ d. StandsSomewhere l.schema (table_at (place_of d) 0)) (take l.table-index l.table-items)
