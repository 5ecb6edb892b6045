use Rattle.campaign_core.proofs.StatusLemmas.{target_follows}
use Rattle.campaign_core.proofs.status_words.target_word.Goals as goal

pub returns-clause-follows : goal.returns-clause-follows
returns-clause-follows c = target_follows _ _ c.first_target_word.ensures
