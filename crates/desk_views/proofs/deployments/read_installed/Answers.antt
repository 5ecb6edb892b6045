use Rattle.desk_views.proofs.Answering.{known}
use Rattle.desk_views.proofs.deployments.read_installed.Goals as goal

pub returns-then-offer-clause-reads : goal.returns-then-offer-clause-reads
returns-then-offer-clause-reads g c = known (λ r. rw c.if-offer.true c.new.ensures.items)

pub returns-clause-reads : goal.returns-clause-reads
returns-clause-reads g c = rw c.if-offer.false c.read_action_modules.ensures.reads
