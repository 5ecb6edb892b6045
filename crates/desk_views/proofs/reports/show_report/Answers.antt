use Rattle.desk_views.proofs.Answering.{arith, ap, ◌∙◌, both_found, finds_as, item_numbered, report_of, ReportShown, ledger_found}
use Rattle.desk_views.proofs.Answering.{rules_there, groups_showable, never_fails, one_replied}
use Rattle.desk_views.proofs.reports.show_report.Goals as goal

pub returns-in-None-clause-shows : goal.returns-in-None-clause-shows
returns-in-None-clause-shows g c = finds_as (rw c.in-None.is at c.in_ok-seen.ensures.reads) (λ r is of. grind arith)

pub returns-clause-shows : goal.returns-clause-shows
returns-clause-shows g c =
    finds_as (both_found (rw c.in-Some.is at c.in_ok-seen.ensures.reads) (ledger_found _ c.in_ok-rules.ensures.reads))
    (λ r is of. one_replied (λ x. ReportShown (report_of x)) (item_numbered r.rollouts c.args.number) c.in-Some.seen _ (is.0 of)
    (λ x there it. ap ReportShown (c.in_ok-whole.ensures.ok x it (c.deref.ensures.value ∙ is.1 ∙ rules_there r c.args.number x there))))

pub returns-in_err-whole-clause-fails : goal.returns-in_err-whole-clause-fails
returns-in_err-whole-clause-fails g c =
    never_fails (λ l it. it) (both_found (rw c.in-Some.is at c.in_ok-seen.ensures.reads) (ledger_found _ c.in_ok-rules.ensures.reads)) _
    c.in_err-whole.ensures.err
    (λ r is of _ readable bad. groups_showable r of c.args.number c.in-Some.seen c.deref.result.now (c.deref.ensures.value ∙ is.1) (is.0 of) bad) _
    c.from_residual-in_err-whole.ensures.1
