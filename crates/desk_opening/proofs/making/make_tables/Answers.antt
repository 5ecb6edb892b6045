use Rattle.desk_opening.proofs.Common.{rules}
use Rattle.desk_opening.proofs.MakeLemmas.{all_made, next_made}
use Rattle.sql_calls.proofs.Stepping.{steps_err}
use Rattle.desk_opening.proofs.making.make_tables.Goals as goal

pub returns-in_err-run-clause-makes : goal.returns-in_err-run-clause-makes
returns-in_err-run-clause-makes g c = λ before. steps_err
    (next_made c.args.tables.now _ _ c.loop-table.table-index c.loop-table.invariant.made c.requires _ _ c.loop-table-test.true _ c.create_text.ensures _
    c.in_err-run.ensures.runs before) _ c.from_residual.ensures.0

pub loop-table-preserved : goal.loop-table-preserved
loop-table-preserved g c = record {
  made = next_made c.args.tables.now _ _ c.loop-table.table-index c.loop-table.invariant.made c.requires _ _ c.loop-table-test.true _ c.create_text.ensures _
      c.in_ok-run.ensures.runs;
  grows = search rules;
}

pub returns-clause-makes : goal.returns-clause-makes
returns-clause-makes g c = all_made c.args.tables.now _ _ c.loop-table.table-index c.loop-table.invariant.made c.loop-table-test.false
