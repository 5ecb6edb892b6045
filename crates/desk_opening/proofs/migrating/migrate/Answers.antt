use Rattle.desk_opening.proofs.Common.{arith, Older, Ok, subst, sym, table_count_of, places, AreApart}
use Rattle.desk_opening.proofs.CauseLemmas.{fill_sound}
use Rattle.desk_opening.proofs.CountLemmas.{counts_any, counts_call, failed_so}
use Rattle.desk_opening.proofs.MigrateLemmas.{began, filled, made, migrates_by, standing, stays_open, version_set}
use Rattle.desk_opening.proofs.Places.{behind_apart, names_apart}
use Rattle.desk_opening.proofs.Steps.{breaks, ended, not_begun, not_ended}
use Rattle.desk_opening.proofs.migrating.migrate.Goals as goal

pub make_tables-requires : goal.make_tables-requires
make_tables-requires g c = subst AreApart (sym c.tables_after.ensures) (behind_apart (table_count_of c.args.version) places names_apart)

pub returns-in_err-begin-clause-migrates : goal.returns-in_err-begin-clause-migrates
returns-in_err-begin-clause-migrates g c = migrates_by _ (λ r. not_begun c.in_err-begin.ensures.runs _ c.from_residual.ensures.0)

pub returns-in_err-make_tables-clause-migrates : goal.returns-in_err-make_tables-clause-migrates
returns-in_err-make_tables-clause-migrates g c = migrates_by _ (λ r. breaks (began c.args.version r c.in_ok-begin.ensures.runs)
    ((rw c.tables_after.ensures at c.in_err-make_tables.ensures.makes) (Older c.args.version r)) _ c.from_residual-in_err-make_tables.ensures.0)

pub returns-in_err-run-clause-migrates : goal.returns-in_err-run-clause-migrates
returns-in_err-run-clause-migrates g c = migrates_by _ (λ r. breaks (made c.args.version r c.in_ok-begin.ensures.runs
    (rw c.tables_after.ensures at c.in_ok-make_tables.ensures.makes)) (version_set c.args.version r _ c.in_err-run.ensures.runs) _
    c.from_residual-in_err-run.ensures.0)

pub returns-in_err-fill_later-clause-migrates : goal.returns-in_err-fill_later-clause-migrates
returns-in_err-fill_later-clause-migrates g c = migrates_by _ (λ r. breaks (standing c.args.version r c.in_ok-begin.ensures.runs
    (rw c.tables_after.ensures at c.in_ok-make_tables.ensures.makes) c.in_ok-run.ensures.runs) c.in_err-fill_later.ensures.standing _
    c.from_residual-in_err-fill_later.ensures.0)

pub returns-in_err-commit-clause-migrates : goal.returns-in_err-commit-clause-migrates
returns-in_err-commit-clause-migrates g c = migrates_by _ (λ r. not_ended (filled c.args.version r c.in_ok-begin.ensures.runs
    (rw c.tables_after.ensures at c.in_ok-make_tables.ensures.makes) c.in_ok-run.ensures.runs c.in_ok-fill_later.ensures.standing
    c.in_ok-fill_later.ensures.writes) c.in_err-commit.ensures.runs _ c.from_residual-in_err-commit.ensures.0)

pub returns-in_err-fill_later-clause-fails : goal.returns-in_err-fill_later-clause-fails
returns-in_err-fill_later-clause-fails g c = counts_call c.in_err-fill_later.field-0.0 c.in_err-fill_later.ensures.stays.grows (omega arith)
    (fill_sound c.args.version c.in_ok-begin.ensures.runs (rw c.tables_after.ensures at c.in_ok-make_tables.ensures.makes) c.in_ok-run.ensures.runs
    c.in_err-fill_later.field-0.0 c.in_err-fill_later.ensures.fails) c.from_residual-in_err-fill_later.result c.from_residual-in_err-fill_later.ensures.1

pub returns-in_err-commit-clause-failed : goal.returns-in_err-commit-clause-failed
returns-in_err-commit-clause-failed g c = failed_so c.in_err-commit.field-0.0 _ c.from_residual-in_err-commit.ensures.1

pub returns-in_err-commit-clause-fails : goal.returns-in_err-commit-clause-fails
returns-in_err-commit-clause-fails g c =
    counts_any c.in_err-commit.field-0.0 c.in_err-commit.ensures.grows (omega arith) (λ where_it_is. c.in_err-commit.ensures.sound)
    c.from_residual-in_err-commit.result c.from_residual-in_err-commit.ensures.1

pub returns-clause-migrates : goal.returns-clause-migrates
returns-clause-migrates g c = migrates_by (Ok tt) (λ r. ended (filled c.args.version r c.in_ok-begin.ensures.runs
    (rw c.tables_after.ensures at c.in_ok-make_tables.ensures.makes) c.in_ok-run.ensures.runs c.in_ok-fill_later.ensures.standing
    c.in_ok-fill_later.ensures.writes) c.in_ok-commit.ensures.runs (g.met.S.Store.settled c.commit.new.self.conn.store) tt)

pub returns-clause-opened : goal.returns-clause-opened
returns-clause-opened g c = stays_open _ _ c.in_ok-commit.ensures.runs
