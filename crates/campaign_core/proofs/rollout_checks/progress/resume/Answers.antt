use Rattle.campaign_core.proofs.RolloutLemmas.{resumes}
use Rattle.campaign_core.proofs.rollout_checks.progress.resume.Goals as goal

pub returns : goal.returns
returns c r = resumes c.args.view.now c.in-Some.view r c.after_resume.result c.in-Some.is c.in_ok-must_be_paused.ensures c.after_resume.ensures.pauses
    c.after_resume.ensures.starts
