use Rattle.desk_views.proofs.Answering.{arith, finds_as}
use Rattle.desk_views.proofs.modules.show_module.Goals as goal

pub returns-in-Some-clause-reads : goal.returns-in-Some-clause-reads
returns-in-Some-clause-reads g c = finds_as (rw c.in-Some.is at c.in_ok-shown.ensures.reads) (λ r is. grind arith)

pub returns-in-None-clause-reads : goal.returns-in-None-clause-reads
returns-in-None-clause-reads g c = finds_as (rw c.in-None.is at c.in_ok-shown.ensures.reads) (λ r is. grind arith)
