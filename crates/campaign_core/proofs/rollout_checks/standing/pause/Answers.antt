use Rattle.campaign_core.proofs.Common.{None, paused}
use Rattle.campaign_core.proofs.RolloutLemmas.{changes_rollout, word_row}
use Rattle.campaign_core.proofs.rollout_checks.standing.pause.Goals as goal
use Rattle.rollout_machine.specs.StateWords.{RunningRollout}

pub returns : goal.returns
returns c r rs sound is = (word_row RunningRollout c.args.view.now r rs None is c.in_ok-must_run.ensures, changes_rollout rs sound r paused)
