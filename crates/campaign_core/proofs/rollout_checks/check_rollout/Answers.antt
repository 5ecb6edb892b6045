use Rattle.campaign_core.proofs.SoundLemmas.{rollout_decision_follows}
use Rattle.campaign_core.proofs.rollout_checks.check_rollout.Goals as goal

pub returns-clause-follows : goal.returns-clause-follows
returns-clause-follows c = rollout_decision_follows _ _ _ c.decide.ensures
