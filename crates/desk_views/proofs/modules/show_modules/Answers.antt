use Rattle.desk_views.proofs.Answering.{ap, finds_as, ModulesShown}
use Rattle.desk_views.proofs.modules.show_modules.Goals as goal

pub returns-clause-reads : goal.returns-clause-reads
returns-clause-reads g c = finds_as c.in_ok-shown.ensures.reads (λ r is. ap ModulesShown (is tt))
