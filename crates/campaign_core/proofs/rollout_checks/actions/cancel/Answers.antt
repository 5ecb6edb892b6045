use Rattle.campaign_core.proofs.ActionLemmas.{cancels}
use Rattle.campaign_core.proofs.rollout_checks.actions.cancel.Goals as goal

pub returns-clause-decides : goal.returns-clause-decides
returns-clause-decides c = cancels c.args.view.now _ _ _ _ c.after_cancel.ensures
