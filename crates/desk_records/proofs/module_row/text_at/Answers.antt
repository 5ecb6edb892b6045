use Rattle.desk_records.proofs.RowLemmas.{fails_at, text_is_utf8}
use Rattle.desk_records.proofs.Common.{is_text}
use Rattle.desk_records.proofs.module_row.text_at.Goals as goal

pub returns-in-Err-clause-err : goal.returns-in-Err-clause-err
returns-in-Err-clause-err c =
    rw c.row_fault.ensures (fails_at is_text text_is_utf8 c.args.row.now c.args.at c.in-Err.error c.args.at_column c.in-Err.ensures.kind)
