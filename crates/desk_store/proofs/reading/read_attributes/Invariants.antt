use Rattle.desk_store.proofs.Answering.{AreReadAs, IsAttributeRow, take}
use Rattle.desk_store.proofs.reading.read_attributes.Given as goal

-- the attributes of the rows so far
abbrev pub invariant-loop-row : goal.invariant-loop-row
invariant-loop-row l = AreReadAs IsAttributeRow (take l.row-index l.rows) l.attributes
