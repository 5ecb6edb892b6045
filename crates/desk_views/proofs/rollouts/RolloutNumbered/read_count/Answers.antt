use Rattle.desk_views.proofs.Answering.{ledger_found}
use Rattle.desk_views.proofs.rollouts.RolloutNumbered.read_count.Goals as goal

pub returns-clause-reads : goal.returns-clause-reads
returns-clause-reads g c = ledger_found _ c.read_last_rollout.ensures.reads
