use Rattle.desk_views.proofs.Answering.{ap, or_not_found}
use Rattle.desk_views.proofs.deployments.named.Goals as goal

pub returns-in-Some : goal.returns-in-Some
returns-in-Some c = ap or_not_found (rw c.in-Some.is at c.first_named.ensures)

pub returns-in-None : goal.returns-in-None
returns-in-None c = ap or_not_found (rw c.in-None.is at c.first_named.ensures)
