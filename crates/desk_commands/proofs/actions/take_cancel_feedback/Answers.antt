use Rattle.desk_commands.proofs.Answering.{refl, ledger_made, records_are_sound, CancelFeedback, records}
use Rattle.desk_commands.proofs.Answering.{accepted_at, refused_at, acts_on_fresh, device_action_seen, own_viewed, feedback_taken}
use Rattle.desk_commands.proofs.Answering.{asked_at, writes_end, feedback_viewed, taken_within, on_cancel, refuses_device}
use Rattle.desk_commands.proofs.actions.take_cancel_feedback.Goals as goal

pub returns-in-Err-clause-steps : goal.returns-in-Err-clause-steps
returns-in-Err-clause-steps g c formed =
    refused_at c.in_ok-seen.ensures.reads
    (λ h valid w. refuses_device (on_cancel c.args.given.now) (records h) _ _ _ (feedback_viewed h valid _ _ _ _ w) c.in-Err.ensures)

pub returns-in-Err-cancel_feedback-clause-steps : goal.returns-in-Err-cancel_feedback-clause-steps
returns-in-Err-cancel_feedback-clause-steps g c formed =
    refused_at c.in_ok-seen.ensures.reads (λ h valid w.
    (rw c.device_action.ensures at c.in-Err-cancel_feedback.ensures.decides) (records h) (records_are_sound h valid)
    (own_viewed c.in-Ok.ensures _ _ _ h valid w))

pub returns-clause-steps : goal.returns-clause-steps
returns-clause-steps g c formed =
    let it = rw c.device_action.ensures at c.in-Ok-cancel_feedback.ensures in
    let taken = feedback_taken c.in-Ok.ensures _ _ _ _ _ it.judges.1 (CancelFeedback c.args.given.now) refl formed it.decides in
    accepted_at c.in_ok-seen.ensures.reads _ (λ h valid w. (taken h valid w).1) (ledger_made _ c.in_ok-write_feedback.ensures.writes) _
    (λ h valid w. ((taken h valid w).0, refl))

pub returns-clause-work : goal.returns-clause-work
returns-clause-work g c =
    taken_within _ _ _
    (acts_on_fresh (device_action_seen c.in_ok-seen.seen.report.standing c.in-Ok.action) _ _
    (rw c.device_action.ensures at c.in-Ok-cancel_feedback.ensures.judges).1)
    c.in_ok-seen.ensures.work c.in_ok-write_feedback.ensures.work

pub returns-in_err-write_feedback-clause-fails : goal.returns-in_err-write_feedback-clause-fails
returns-in_err-write_feedback-clause-fails g c formed =
    let it = rw c.device_action.ensures at c.in-Ok-cancel_feedback.ensures in
    let taken = feedback_taken c.in-Ok.ensures _ _ _ _ _ it.judges.1 (CancelFeedback c.args.given.now) refl formed it.decides in
    writes_end (asked_at (λ l given. given.of_list) c.in_ok-seen.ensures.reads
    c.in_err-write_feedback.ensures.writes.wears
    (λ h valid w steps. record { takes = steps; next = _; changes = (taken h valid w).1 })
    c.in_err-write_feedback.ensures.fails.to) c.from_residual-in_err-write_feedback.ensures.1
