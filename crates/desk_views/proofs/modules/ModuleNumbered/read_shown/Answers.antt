use Rattle.desk_views.proofs.Answering.{Some, refl, sym, both_found, finds_as}
use Rattle.desk_views.proofs.modules.ModuleNumbered.read_shown.Goals as goal

pub returns-in-None-clause-reads : goal.returns-in-None-clause-reads
returns-in-None-clause-reads g c = finds_as (rw c.in-None.is at c.in_ok-label.ensures.reads) (λ r is _. rw (sym is) refl)

pub returns-clause-reads : goal.returns-clause-reads
returns-clause-reads g c =
    finds_as (both_found (rw c.in-Some.is at c.in_ok-label.ensures.reads) c.in_ok-locked.ensures.reads)
    (λ r is _. rw (sym is.0) (λ i. Some (record { number = c.args.number.now; locked = is.1 i; label = c.in-Some.label })))
