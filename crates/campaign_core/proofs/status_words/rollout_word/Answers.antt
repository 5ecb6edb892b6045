use Rattle.campaign_core.proofs.StatusLemmas.{rollout_follows}
use Rattle.campaign_core.proofs.status_words.rollout_word.Goals as goal

pub returns-clause-follows : goal.returns-clause-follows
returns-clause-follows c = rollout_follows _ _ _ _ c.are_over.ensures c.first_rollout_word.ensures
