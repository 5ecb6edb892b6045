use Rattle.desk_verify.proofs.Common.{both_found, finds_as}
use Rattle.desk_verify.proofs.Causes.{so_far, stops_at}
use Rattle.desk_verify.proofs.Naming.{all_named, first_named}
use Rattle.desk_verify.proofs.finding.check_tables.Goals as goal

pub returns-then-not-branch-clause-judges : goal.returns-then-not-branch-clause-judges
returns-then-not-branch-clause-judges g c =
    finds_as (both_found c.loop-table.invariant.judged (rw c.if-not-branch.true at c.in_ok-check_table.ensures.judges))
    (λ t is. first_named t c.loop-table.table-index c.loop-table-test.true is.0 is.1)

pub returns-in_err-check_table-clause-stops : goal.returns-in_err-check_table-clause-stops
returns-in_err-check_table-clause-stops g c =
    stops_at _ c.loop-table.invariant.judged c.in_err-check_table.ensures.judges.wears
    c.in_err-check_table.field-0.0 c.in_err-check_table.ensures.blames
    (λ t is. so_far t c.loop-table.table-index c.loop-table-test.true is) c.from_residual.result c.from_residual.ensures.1

pub returns-clause-judges : goal.returns-clause-judges
returns-clause-judges g c = finds_as c.loop-table.invariant.judged (λ t is. all_named t c.loop-table.table-index c.loop-table-test.false is)
