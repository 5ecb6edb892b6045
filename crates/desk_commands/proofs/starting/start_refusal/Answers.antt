use Rattle.desk_commands.proofs.Answering.{Start, records_are_sound, judged, standing_view}
use Rattle.campaign_core.specs.declared.rollout_checks.RolloutCommandView.TheVariants as view
use Rattle.desk_commands.proofs.starting.start_refusal.Goals as goal

pub returns : goal.returns
returns c h r x at =
    judged (view.Start _) (Start r) _ _ c.refusal_in.ensures (c.start.ensures r) _ (records_are_sound h at.valid) (standing_view h r _ x _ c.word.ensures at)
