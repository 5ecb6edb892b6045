use Rattle.desk_store.proofs.Answering.{BreaksRule, broken_attribute_column, told_broken}
use Rattle.desk_store.proofs.reading.read_attributes.Goals as goal

pub returns-in_err-attribute-clause-err : goal.returns-in_err-attribute-clause-err
returns-in_err-attribute-clause-err c = told_broken (λ row. BreaksRule (broken_attribute_column row)) c.args.rows.now c.loop-row.row-index c.row-item.result
    c.loop-row-test.true c.row-item.is c.in_err-attribute.field-0.0 c.in_err-attribute.ensures.err c.from_residual.result c.from_residual.ensures.1
