use Rattle.desk_opening.proofs.Common.{Nothing}
use Rattle.desk_opening.proofs.MakeLemmas.{began_new, desk_put, makes_by}
use Rattle.desk_opening.proofs.Places.{names_apart}
use Rattle.desk_opening.proofs.Steps.{breaks, ended, goes, not_begun, not_ended}
use Rattle.desk_opening.proofs.making.fill.Goals as goal

pub make_tables-requires : goal.make_tables-requires
make_tables-requires g c = names_apart

pub returns-in_err-begin-clause-makes : goal.returns-in_err-begin-clause-makes
returns-in_err-begin-clause-makes g c = makes_by _ (not_begun c.in_err-begin.ensures.runs _ c.from_residual.ensures.0)

pub returns-in_err-make_tables-clause-makes : goal.returns-in_err-make_tables-clause-makes
returns-in_err-make_tables-clause-makes g c = makes_by _
    (breaks (began_new c.in_ok-begin.ensures.runs) (c.in_err-make_tables.ensures.makes Nothing) _ c.from_residual-in_err-make_tables.ensures.0)

pub returns-in_err-run-clause-makes : goal.returns-in_err-run-clause-makes
returns-in_err-run-clause-makes g c = makes_by _ (breaks (goes (began_new c.in_ok-begin.ensures.runs) (c.in_ok-make_tables.ensures.makes Nothing))
    (desk_put c.args.approval _ (rw c.params-to_sql.ensures at c.in_err-run.ensures.runs)) _ c.from_residual-in_err-run.ensures.0)

pub returns-in_err-commit-clause-makes : goal.returns-in_err-commit-clause-makes
returns-in_err-commit-clause-makes g c =
    let put = desk_put c.args.approval _ (rw c.params-to_sql.ensures at c.in_ok-run.ensures.runs) in
    makes_by _ (not_ended (goes (goes (began_new c.in_ok-begin.ensures.runs) (c.in_ok-make_tables.ensures.makes Nothing)) put) c.in_err-commit.ensures.runs _
    c.from_residual-in_err-commit.ensures.0)

pub returns-clause-makes : goal.returns-clause-makes
returns-clause-makes g c =
    let made = goes (began_new c.in_ok-begin.ensures.runs) (c.in_ok-make_tables.ensures.makes Nothing) in
    let put = desk_put c.args.approval _ (rw c.params-to_sql.ensures at c.in_ok-run.ensures.runs) in
    makes_by _ (ended (goes made put) c.in_ok-commit.ensures.runs (g.met.S.Store.settled c.commit.new.self.conn.store) tt)
