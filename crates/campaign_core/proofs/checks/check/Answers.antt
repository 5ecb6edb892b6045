use Rattle.campaign_core.proofs.CheckLemmas.{decision_follows}
use Rattle.campaign_core.proofs.checks.check.Goals as goal

pub returns-clause-follows : goal.returns-clause-follows
returns-clause-follows c = decision_follows _ _ _ c.decide.ensures
