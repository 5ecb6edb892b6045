use Rattle.desk_views.proofs.Common.{arith, option_map}
use Rattle.desk_views.proofs.Answering.{finds_as}
use Rattle.desk_views.proofs.artifacts.show_artifact.Goals as goal

pub returns-in-Some-clause-reads : goal.returns-in-Some-clause-reads
returns-in-Some-clause-reads g c = rw c.shown_as.ensures (finds_as (rw c.in-Some.is at c.in_ok-found.ensures.reads) (λ r is. grind (arith, option_map)))

pub returns-in-None-clause-reads : goal.returns-in-None-clause-reads
returns-in-None-clause-reads g c = finds_as (rw c.in-None.is at c.in_ok-found.ensures.reads) (λ r is. grind (arith, option_map))
