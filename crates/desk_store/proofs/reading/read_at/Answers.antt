use Rattle.desk_store.proofs.Answering.{refl, slice_get_read, told_broken}
use Rattle.desk_store.proofs.reading.read_at.Goals as goal

pub returns-in_err-found-clause-err : goal.returns-in_err-found-clause-err
returns-in_err-found-clause-err g c =
    let is = c.in-Some.ensures.lookup in
    told_broken g.T.FromRow.is_broken c.args.rows.now c.args.at c.in-Some.row.now is.3.0 is.1 c.in_err-found.field-0.0 c.in_err-found.ensures.err
    c.from_residual.result c.from_residual.ensures.1

pub returns-clause-ok : goal.returns-clause-ok
returns-clause-ok g c =
    let is = c.in-Some.ensures.lookup in
    rw (slice_get_read c.args.rows.now _ c.args.at c.in-Some.row.now refl is.3.0 is.1) (c.in_ok-found.found, refl, c.in_ok-found.ensures.ok)
