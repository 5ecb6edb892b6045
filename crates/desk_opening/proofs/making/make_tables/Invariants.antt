use Rattle.desk_opening.proofs.Common.{map, state, place_of}
use Rattle.sql_calls.specs.Calls.{Grows}
use Rattle.desk_opening.proofs.MakeLemmas.{HasMade}
use Rattle.desk_opening.proofs.making.make_tables.Given as goal

abbrev pub invariant-loop-table : goal.invariant-loop-table
invariant-loop-table g l = record {
  made : HasMade (map place_of l.tables) (state g.S.Store l.initial.calls.conn) (state g.S.Store l.calls.conn) l.table-index;
  grows : Grows 0 l.initial.calls l.calls;
}
