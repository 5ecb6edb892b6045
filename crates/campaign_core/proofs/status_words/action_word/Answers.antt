use Rattle.campaign_core.proofs.StatusLemmas.{action_follows}
use Rattle.campaign_core.proofs.status_words.action_word.Goals as goal

pub returns-clause-follows : goal.returns-clause-follows
returns-clause-follows c = action_follows _ _ c.first_action_word.ensures
