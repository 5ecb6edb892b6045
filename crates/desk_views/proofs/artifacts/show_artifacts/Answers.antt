use Rattle.desk_views.proofs.FailingReads.{artifacts_counted}
use Rattle.desk_views.proofs.ArtifactViews.{page_shown}
use Rattle.desk_views.proofs.Answering.{arith, sym, ap, ◌∙◌, not, drop, length, take, both_found, finds_as, artifacts_shown, never_fails}
use Rattle.std.proofs.Common.{rules}
use Rattle.desk_store.proofs.CallsInTurn.{stays_end, stays_then}
use Rattle.desk_views.proofs.artifacts.show_artifacts.Goals as goal

pub returns-in_err-artifacts-clause-stays : goal.returns-in_err-artifacts-clause-stays
returns-in_err-artifacts-clause-stays g c =
    stays_end (stays_then c.in_ok-read_module.ensures.stays _ c.in_err-artifacts.ensures.stays) _ c.from_residual-in_err-artifacts.ensures.1

pub returns-in_err-shown-clause-stays : goal.returns-in_err-shown-clause-stays
returns-in_err-shown-clause-stays g c =
    let it = stays_then c.in_ok-read_module.ensures.stays _ c.in_ok-artifacts.ensures.stays in
    search (it, c.in_err-shown.ensures.err, c.from_residual-in_err-shown.ensures.1, rules)

pub returns-then-is_none-clause-reads : goal.returns-then-is_none-clause-reads
returns-then-is_none-clause-reads g c = finds_as c.in_ok-read_module.ensures.reads (λ r is. grind (arith, c.is_none.ensures, c.if-is_none.true))

pub returns-clause-reads : goal.returns-clause-reads
returns-clause-reads g c =
    finds_as (both_found c.in_ok-read_module.ensures.reads c.in_ok-artifacts.ensures.reads)
    (λ r is.
    let all = c.deref.ensures.value ∙ is.1 in
    rw (sym is.0)
    (page_shown c.in_ok-read_module.field-0 c.args.page (artifacts_shown c.args.module_number 1 r.artifacts) c.in_ok-shown.shown
    (c.is_none.ensures ∙ ap not c.if-is_none.false)
    (c.in_ok-shown.ensures.content ∙ ap (λ l. take c.args.page.limit (drop c.args.page.offset l)) all) (c.in_ok-shown.ensures.total ∙ ap length all)))

pub returns-in_err-shown-clause-fails : goal.returns-in_err-shown-clause-fails
returns-in_err-shown-clause-fails g c =
    never_fails (λ l it. it) (both_found c.in_ok-read_module.ensures.reads c.in_ok-artifacts.ensures.reads) _ c.in_err-shown.ensures.err
    (λ r is of _ readable large. artifacts_counted r of c.args.module_number _ (c.deref.ensures.value ∙ is.1) large) _
    c.from_residual-in_err-shown.ensures.1
