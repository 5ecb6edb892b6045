use Rattle.desk_commands.proofs.Answering.{makes_then, adds_row_parts, tags_distinct}
use Rattle.desk_commands.proofs.targets.add_row.Goals as goal

pub returns-clause-writes : goal.returns-clause-writes
returns-clause-writes g c =
    makes_then c.in_ok-write_target.ensures.writes
    (λ r next h. adds_row_parts c.args.row.now (tags_distinct _ _ c.as_slice.ensures.list c.as_slice.ensures.value) r next h.0 h.1) _
    (rw c.as_slice.ensures.value at c.add_tags.ensures.writes)
