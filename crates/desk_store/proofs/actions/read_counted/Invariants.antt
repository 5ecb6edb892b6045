use Rattle.desk_store.proofs.Answering.{counted_of, filter_map, take, ◌≡◌}
use Rattle.desk_store.proofs.actions.read_counted.Given as goal

-- those of the rows so far
abbrev pub invariant-loop-row : goal.invariant-loop-row
invariant-loop-row l = l.found.items ≡ filter_map counted_of (take l.row-index l.rows)
