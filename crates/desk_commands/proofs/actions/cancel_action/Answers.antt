use Rattle.desk_commands.proofs.Answering.{refl, None, ledger_made, records_are_sound, records, accepted_at}
use Rattle.desk_commands.proofs.Answering.{refused_at, cancel_row, cancel_taken, asked_at, writes_end, cancel_viewed}
use Rattle.desk_commands.proofs.actions.cancel_action.Goals as goal

pub returns-in_default-clause-steps : goal.returns-in_default-clause-steps
returns-in_default-clause-steps g c formed =
    refused_at (rw c.in_default.is at c.in_ok-found.ensures.reads)
    (λ h valid w. cancel_row (records h) _ _ c.args.asked.now.force None (cancel_viewed h valid _ _ None w))

pub returns-in-Err-clause-steps : goal.returns-in-Err-clause-steps
returns-in-Err-clause-steps g c formed =
    refused_at (rw c.in-Some.is at c.in_ok-found.ensures.reads)
    (λ h valid w. (rw c.cancel_view.ensures at c.in-Err.ensures.decides) (records h) (records_are_sound h valid) (cancel_viewed h valid _ _ _ w))

pub returns-clause-steps : goal.returns-clause-steps
returns-clause-steps g c formed =
    let a = c.args.asked.now in
    let taken = cancel_taken a.target a.action a.force formed (rw c.cancel_view.ensures at c.in-Ok.ensures.decides)
    (rw c.cancel_view.ensures at c.in-Ok.ensures.judges) in
    accepted_at (rw c.in-Some.is at c.in_ok-found.ensures.reads) _ (λ h valid w. (taken h valid w).1) (ledger_made _ c.in_ok-act.ensures.writes) _
    (λ h valid w. ((taken h valid w).0, refl))

pub returns-in_err-act-clause-fails : goal.returns-in_err-act-clause-fails
returns-in_err-act-clause-fails g c formed =
    let a = c.args.asked.now in
    let taken = cancel_taken a.target a.action a.force formed (rw c.cancel_view.ensures at c.in-Ok.ensures.decides)
    (rw c.cancel_view.ensures at c.in-Ok.ensures.judges) in
    writes_end (asked_at (λ l given. given.of_list) (rw c.in-Some.is at c.in_ok-found.ensures.reads)
    c.in_err-act.ensures.writes.wears
    (λ h valid w steps. record { takes = steps; next = _; changes = (taken h valid w).1 })
    c.in_err-act.ensures.fails.to) c.from_residual-in_err-act.ensures.1
