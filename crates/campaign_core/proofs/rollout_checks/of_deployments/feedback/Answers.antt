use Rattle.campaign_core.proofs.FeedbackLemmas.{on_deployment, reports}
use Rattle.campaign_core.specs.declared.rollout_checks.RolloutChange.TheVariants as change
use Rattle.campaign_core.proofs.rollout_checks.of_deployments.feedback.Goals as goal

pub returns-clause-decides : goal.returns-clause-decides
returns-clause-decides c rs sound is =
    reports (on_deployment c.args.given.now) c.args.own_action.now rs is change.Feedback (λ d makes. makes) sound _ c.after_feedback.ensures
