use Rattle.desk_commands.proofs.Answering.{◌∙◌, ap, list_any, not, GroupRecord, Some, Resume, TriggerNext, records_are_sound, judged}
use Rattle.campaign_core.specs.declared.rollout_checks.RolloutCommandView.TheVariants as view
use Rattle.desk_commands.proofs.progress.refusal_of.Goals as goal

pub returns-in-Resumed : goal.returns-in-Resumed
returns-in-Resumed c h r x at so =
    rw c.in-Resumed.is
    (judged (view.Resume (Some (record { word = c.word-word.result; rollout = c.args.rollout }))) (Resume r) _ _ c.refusal_in.ensures (c.resume.ensures r) _
    (records_are_sound h at.valid) (rw at.is_there (record { word = c.word-word.ensures x at.is_seen; rollout = so })))

pub returns-in-Triggered : goal.returns-in-Triggered
returns-in-Triggered c h r x at so =
    rw c.in-Triggered.is
    (judged (view.TriggerNext (Some (record { word = c.word-word.result; has_next = c.has_next-has_next.result; rollout = c.args.rollout }))) (TriggerNext r)
    _ _ c.refusal_in-in-Triggered.ensures (c.trigger.ensures r) _ (records_are_sound h at.valid)
    (rw at.is_there (record {
      word = c.word-word.ensures x at.is_seen;
      has_next = (rw c.deref.ensures.value at c.has_next-has_next.ensures) ∙ ap (list_any (λ (g : GroupRecord). not g.started)) at.is_seen.groups;
      rollout = so;
    })))
