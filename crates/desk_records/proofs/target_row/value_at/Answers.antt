use Rattle.desk_records.proofs.RowLemmas.{fails_at, value_is_utf8}
use Rattle.desk_records.proofs.Common.{is_value}
use Rattle.desk_records.proofs.target_row.value_at.Goals as goal

pub returns-in-Err-clause-err : goal.returns-in-Err-clause-err
returns-in-Err-clause-err c = rw c.row_fault.ensures (fails_at is_value value_is_utf8 c.args.row.now c.args.at c.in-Err.error _ c.in-Err.ensures.kind)
