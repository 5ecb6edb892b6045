use Rattle.desk_commands.proofs.Answering.{rules, writes_end, rows_end, all_put, none_put, row_more, row_refuses}
use Rattle.desk_commands.proofs.targets.put_rows.Goals as goal

pub loop-row-init : goal.loop-row-init
loop-row-init g c = record { stays = search rules; puts = none_put _ }

pub returns-in-Err-clause-puts : goal.returns-in-Err-clause-puts
returns-in-Err-clause-puts g c =
    row_refuses _ _ _ c.args.rows.now c.row-item.result c.loop-row.row-index c.loop-row-test.true c.row-item.is c.loop-row.counted c.loop-row.invariant.puts
    c.in-Err.refusal (rw c.in-Err.is at c.in_ok-then.ensures.puts)

pub loop-row-preserved : goal.loop-row-preserved
loop-row-preserved g c = record {
  stays = search rules;
  puts = row_more _ _ _ c.args.rows.now c.row-item.result c.loop-row.row-index c.loop-row-test.true c.row-item.is c.loop-row.counted c.loop-row.invariant.puts
      c.in-Ok.then (rw c.in-Ok.is at c.in_ok-then.ensures.puts);
}

pub returns-clause-puts : goal.returns-clause-puts
returns-clause-puts g c = all_put _ _ c.args.rows.now c.loop-row.row-index c.loop-row.counted c.loop-row-test.false c.loop-row.invariant.puts

pub returns-in_err-then-clause-fails : goal.returns-in_err-then-clause-fails
returns-in_err-then-clause-fails g c =
    writes_end (rows_end c.args.rows.now c.row-item.result c.loop-row.row-index c.loop-row-test.true c.row-item.is c.loop-row.counted c.loop-row.invariant.puts
    c.in_err-then.ensures.puts.wears c.in_err-then.ensures.fails)
    c.from_residual.ensures.1
