use Rattle.desk_views.proofs.Common.{arith, map-append, append-nil}
use Rattle.desk_views.proofs.Answering.{both_found, finds_as}
use Rattle.desk_views.proofs.deployments.add_chunk.Goals as goal

pub returns-in-None-clause-reads : goal.returns-in-None-clause-reads
returns-in-None-clause-reads g c = finds_as (rw c.in-None.is at c.in_ok-label.ensures.reads) (λ r is. grind (arith, append-nil))

pub returns-clause-reads : goal.returns-clause-reads
returns-clause-reads g c = finds_as (both_found (rw c.in-Some.is at c.in_ok-label.ensures.reads) c.in_ok-artifacts.ensures.reads)
    (λ r is. grind (arith, map-append, c.in_ok-push.ensures.items))
