use Rattle.campaign_core.proofs.RolloutLemmas.{triggers}
use Rattle.campaign_core.proofs.rollout_checks.progress.trigger.Goals as goal

pub returns : goal.returns
returns c r = triggers c.args.view.now c.in-Some.view r c.after_trigger.result c.in-Some.is c.in_ok-must_run.ensures c.if-not-view.false
    c.after_trigger.ensures.pauses c.after_trigger.ensures.starts
