use Rattle.desk_commands.proofs.Answering.{both_found, finds_as, ledger_found, none_at, stands_at, asked, reads_end}
use Rattle.desk_commands.proofs.reports.see_numbered.Goals as goal

pub returns-in_ok-standing-in-Some-clause-reads : goal.returns-in_ok-standing-in-Some-clause-reads
returns-in_ok-standing-in-Some-clause-reads g c =
    finds_as (both_found (ledger_found _ (rw c.in-Some.is at c.in_ok-found.ensures.reads)) c.in_ok-standing-in-Some.ensures.reads)
    (λ r is of. stands_at r c.args.given.now.action c.args.number _ c.in-Some.last c.in_ok-standing-in-Some.standing is.0 (is.1 of))

pub returns-in-None-clause-reads : goal.returns-in-None-clause-reads
returns-in-None-clause-reads g c =
    finds_as (ledger_found _ (rw c.in-None.is at c.in_ok-found.ensures.reads)) (λ r is of. none_at r c.args.given.now.action c.args.number _ is)

pub returns-in_err-standing-in-Some-clause-fails : goal.returns-in_err-standing-in-Some-clause-fails
returns-in_err-standing-in-Some-clause-fails g c =
    reads_end (asked (rw c.in-Some.is at c.in_ok-found.ensures.reads) c.in_err-standing-in-Some.ensures.reads.wears
    (λ l is of. record { of_list = of; place = c.in-Some.last.place; is_last = is }) c.in_err-standing-in-Some.ensures.fails.to)
    c.from_residual-in_err-standing-in-Some.ensures.1
