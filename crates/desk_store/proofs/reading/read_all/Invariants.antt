use Rattle.desk_store.proofs.Answering.{AreReadAs, take}
use Rattle.desk_store.proofs.reading.read_all.Given as goal

-- what the rows so far are read as
abbrev pub invariant-loop-row : goal.invariant-loop-row
invariant-loop-row g l = AreReadAs g.T.FromRow.is_row (take l.row-index l.rows) l.found.items
