use Rattle.campaign_core.proofs.Common.{refl, false}
use Rattle.rollout_machine.proofs.EffectLaws.{trigger_follows}
use Rattle.campaign_core.proofs.effects.after_trigger.Goals as goal

pub returns-clause-follows : goal.returns-clause-follows
returns-clause-follows c = trigger_follows c.args.view.now (record { pauses = false; starts = c.next_group.result }) refl c.next_group.ensures
