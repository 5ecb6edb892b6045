use Rattle.campaign_core.proofs.Common.{refl, false}
use Rattle.rollout_machine.proofs.EffectLaws.{resume_follows}
use Rattle.campaign_core.proofs.effects.after_resume.Goals as goal

pub returns-clause-follows : goal.returns-clause-follows
returns-clause-follows c = resume_follows c.args.view.now (record { pauses = false; starts = c.next_where.result }) refl c.next_where.ensures
