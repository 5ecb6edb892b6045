use Rattle.desk_store.proofs.Answering.{told_broken}
use Rattle.desk_store.proofs.reading.read_all.Goals as goal

pub returns-in_err-one-clause-err : goal.returns-in_err-one-clause-err
returns-in_err-one-clause-err g c = told_broken g.T.FromRow.is_broken c.args.rows.now c.loop-row.row-index c.row-item.result c.loop-row-test.true c.row-item.is
    c.in_err-one.field-0.0 c.in_err-one.ensures.err c.from_residual.result c.from_residual.ensures.1
