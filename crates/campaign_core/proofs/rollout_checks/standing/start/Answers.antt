use Rattle.campaign_core.proofs.Common.{None}
use Rattle.campaign_core.proofs.RolloutLemmas.{starts_rollout, word_row}
use Rattle.campaign_core.proofs.rollout_checks.standing.start.Goals as goal
use Rattle.rollout_machine.specs.StateWords.{ReadyRollout}

pub returns : goal.returns
returns c r rs sound is = (word_row ReadyRollout c.args.view.now r rs None is c.in_ok-must_be_ready.ensures, starts_rollout rs sound r)
