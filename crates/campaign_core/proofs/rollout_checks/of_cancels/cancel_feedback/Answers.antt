use Rattle.campaign_core.proofs.FeedbackLemmas.{on_cancel, reports}
use Rattle.campaign_core.specs.declared.rollout_checks.RolloutChange.TheVariants as change
use Rattle.campaign_core.proofs.rollout_checks.of_cancels.cancel_feedback.Goals as goal

pub returns-clause-decides : goal.returns-clause-decides
returns-clause-decides c rs sound is =
    reports (on_cancel c.args.given.now) c.args.own_action.now rs is change.CancelFeedback (λ d makes. makes) sound _ c.after_cancel_feedback.ensures
