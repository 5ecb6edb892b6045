use Rattle.desk_commands.proofs.Answering.{Approve, Deny, Pause, records_are_sound, judged, standing_view}
use Rattle.campaign_core.specs.declared.rollout_checks.RolloutCommandView.TheVariants as view
use Rattle.desk_commands.proofs.standing.refusal_of.Goals as goal

pub returns-in-Approved : goal.returns-in-Approved
returns-in-Approved c h r x at =
    rw c.in-Approved.is
    (judged (view.Approve _) (Approve r) _ _ c.refusal_in.ensures (c.approve.ensures r) _ (records_are_sound h at.valid)
    (standing_view h r _ x _ c.word.ensures at))

pub returns-in-Denied : goal.returns-in-Denied
returns-in-Denied c h r x at =
    rw c.in-Denied.is
    (judged (view.Deny _) (Deny r) _ _ c.refusal_in-in-Denied.ensures (c.deny.ensures r) _ (records_are_sound h at.valid)
    (standing_view h r _ x _ c.word.ensures at))

pub returns-in-Paused : goal.returns-in-Paused
returns-in-Paused c h r x at =
    rw c.in-Paused.is
    (judged (view.Pause _) (Pause r) _ _ c.refusal_in-in-Paused.ensures (c.pause.ensures r) _ (records_are_sound h at.valid)
    (standing_view h r _ x _ c.word.ensures at))
