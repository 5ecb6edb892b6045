use Rattle.desk_store.proofs.Answering.{AreReadAs, take}
use Rattle.desk_store.proofs.checked_row.read_checked.Given as goal

-- what the rows so far are read as
abbrev pub invariant-loop-row : goal.invariant-loop-row
invariant-loop-row g l = AreReadAs g.T.FromCheckedRow.is_row (take l.row-index l.rows) l.found.items
