use Rattle.desk_views.proofs.Common.{arith, append-nil, map-append}
use Rattle.desk_views.proofs.Answering.{finds_as}
use Rattle.desk_views.proofs.targets.add_target.Goals as goal

pub returns-in-None-clause-reads : goal.returns-in-None-clause-reads
returns-in-None-clause-reads g c = finds_as (rw c.in-None.is at c.in_ok-shown.ensures.reads) (λ r is. grind (arith, append-nil))

pub returns-clause-reads : goal.returns-clause-reads
returns-clause-reads g c = finds_as (rw c.in-Some.is at c.in_ok-shown.ensures.reads) (λ r is. grind (arith, map-append, c.in_ok-push.ensures.items))
