use Rattle.campaign_core.proofs.Common.{None, Given, with_approval}
use Rattle.campaign_core.proofs.RolloutLemmas.{changes_rollout, word_row}
use Rattle.campaign_core.proofs.rollout_checks.standing.approve.Goals as goal
use Rattle.rollout_machine.specs.StateWords.{WaitingForApproval}

pub returns : goal.returns
returns c r rs sound is = (word_row WaitingForApproval c.args.view.now r rs None is c.in_ok-must_wait.ensures, changes_rollout rs sound r (with_approval Given))
