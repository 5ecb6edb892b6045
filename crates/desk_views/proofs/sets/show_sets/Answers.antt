use Rattle.desk_views.proofs.Answering.{ap, finds_as, SetsShown}
use Rattle.desk_views.proofs.sets.show_sets.Goals as goal

pub returns-clause-reads : goal.returns-clause-reads
returns-clause-reads g c = finds_as c.in_ok-shown.ensures.reads (λ r is. ap SetsShown (is tt))
