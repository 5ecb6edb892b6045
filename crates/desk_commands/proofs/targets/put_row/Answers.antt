use Rattle.desk_commands.proofs.Answering.{None, Some, refl, arith, both_found, found_held, PutsOver, asked_at, writes_end, count_kept, row_put, row_refused}
use Rattle.desk_commands.proofs.PutLemmas.{count_grown, too_many}
use Rattle.desk_commands.proofs.targets.put_row.Goals as goal

pub returns-in-Some-clause-puts : goal.returns-in-Some-clause-puts
returns-in-Some-clause-puts g c =
    row_put (found_held (λ db r holds. holds.sorted) (rw c.in-Some.is at c.in_ok-found.ensures.reads))
    (PutsOver (Some c.in-Some.stored) c.args.row.now) (λ r is. (is.1, refl)) _ c.in_ok-change_row-in-Some.ensures.writes
    (λ r is. count_kept c.args.row.now _ r c.in-Some.stored is.0 is.1)

pub returns-in-Err-clause-puts : goal.returns-in-Err-clause-puts
returns-in-Err-clause-puts g c =
    row_refused (both_found (rw c.in-None.is at c.in_ok-found.ensures.reads) c.in_ok-count-in-None.ensures.reads)
    (λ r is counted. too_many c.args.row.now r _ _ (λ few. omega (arith, few, c.saturating_add-count_after.ensures)) is.0 (is.1 counted) _ c.in-Err.ensures)

pub returns-clause-puts : goal.returns-clause-puts
returns-clause-puts g c =
    row_put (both_found (rw c.in-None.is at c.in_ok-found.ensures.reads) c.in_ok-count-in-None.ensures.reads)
    (PutsOver None c.args.row.now) (λ r is. (is.0, refl)) _ c.in_ok-add_row-in-None.ensures.writes
    (λ r is counted. count_grown c.args.row.now r _ _ (λ few. omega (arith, few, c.saturating_add-count_after.ensures)) is.0 (is.1 counted) c.in-Ok.ensures)

pub returns-in_err-change_row-in-Some-clause-fails : goal.returns-in_err-change_row-in-Some-clause-fails
returns-in_err-change_row-in-Some-clause-fails g c =
    writes_end (asked_at (λ l given. given.of_list) (rw c.in-Some.is at c.in_ok-found.ensures.reads)
    c.in_err-change_row-in-Some.ensures.writes.wears
    (λ h valid is given. record { takes = given; stored_is = is }) c.in_err-change_row-in-Some.ensures.fails.to)
    c.from_residual-in_err-change_row-in-Some.ensures.1
