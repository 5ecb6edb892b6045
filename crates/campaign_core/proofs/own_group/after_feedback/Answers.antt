use Rattle.campaign_core.proofs.OwnGroups.{follows_outcome}
use Rattle.campaign_core.proofs.own_group.after_feedback.Goals as goal

pub returns-clause-follows : goal.returns-clause-follows
returns-clause-follows c = follows_outcome c.args.view.now c.args.outcome c.what_follows.result c.what_follows.ensures
