use Rattle.desk_commands.proofs.Answering.{Ok, ◌∙◌, both_found, ledger_made, ledger_of, records, GoesOn, accepted_at, refused_at}
use Rattle.desk_commands.proofs.Answering.{asked_at, never_at, writes_end, found_in, gone_on, none_there, of_list, seen_there}
use Rattle.desk_commands.proofs.ProgressLemmas.{is_gone}
use Rattle.desk_commands.proofs.progress.go_on.Goals as goal

pub returns-in_default-clause-steps : goal.returns-in_default-clause-steps
returns-in_default-clause-steps g c =
    refused_at (rw c.in_default.is at c.in_ok-found.ensures.reads)
    (λ h valid sees. (is_gone c.args.going).lacks (records h) c.args.number (none_there h valid c.args.number sees))

pub returns-in-Some-refusal_of-clause-steps : goal.returns-in-Some-refusal_of-clause-steps
returns-in-Some-refusal_of-clause-steps g c =
    refused_at (both_found (rw c.in-Some.is at c.in_ok-found.ensures.reads) c.in_ok-rollout.ensures.reads)
    (λ h valid sees.
    let it = seen_there h valid c.args.number c.in-Some.seen sees.0 in
    c.refusal_of.ensures h _ _ it.at (sees.1 (of_list h valid) _ it.at.is_there it.at.is_seen) ∙ c.in-Some-refusal_of.is)

pub returns-clause-steps : goal.returns-clause-steps
returns-clause-steps g c =
    let number = c.args.number in
    let seen = c.in-Some.seen in
    accepted_at (both_found (rw c.in-Some.is at c.in_ok-found.ensures.reads) c.in_ok-rollout.ensures.reads)
    (λ r next. GoesOn number seen c.pause_of-paused.result c.in_ok-group.group (ledger_of r) (ledger_of next))
    (λ h valid sees.
    let it = seen_there h valid number seen sees.0 in
    let view = sees.1 (of_list h valid) it.rollout it.at.is_there it.at.is_seen in
    gone_on c.args.going h number seen it c.in_ok-rollout.rollout view _ c.pause_of-paused.ensures _ c.start_of.ensures
    (c.refusal_of.ensures h number it.rollout it.at view ∙ c.in_default-refusal_of.is) (Ok c.in_ok-group.group)
    (rw c.deref.ensures.value at c.in_ok-group.ensures))
    (ledger_made (Ok tt) c.in_ok-write_going.ensures.writes)
    _ (λ h valid sees.
    let at = (seen_there h valid number seen sees.0).at in
    (c.refusal_of.ensures h _ _ at (sees.1 (of_list h valid) _ at.is_there at.is_seen) ∙ c.in_default-refusal_of.is, (is_gone c.args.going).reply _ number))

pub returns-in_err-rollout-clause-fails : goal.returns-in_err-rollout-clause-fails
returns-in_err-rollout-clause-fails g c =
    writes_end (asked_at (λ l given. given.of_list) (rw c.in-Some.is at c.in_ok-found.ensures.reads) c.in_err-rollout.ensures.reads.wears
    (λ h valid sees given. found_in h _ _ (seen_there h valid c.args.number c.in-Some.seen sees)) c.in_err-rollout.ensures.fails.to)
    c.from_residual-in_err-rollout.ensures.1

pub returns-in_err-group-clause-fails : goal.returns-in_err-group-clause-fails
returns-in_err-group-clause-fails g c =
    let number = c.args.number in
    let seen = c.in-Some.seen in
    writes_end (never_at (λ l given. given.of_list) (both_found (rw c.in-Some.is at c.in_ok-found.ensures.reads) c.in_ok-rollout.ensures.reads)
    (λ h valid sees given.
    let it = seen_there h valid number seen sees.0 in
    let view = sees.1 (of_list h valid) it.rollout it.at.is_there it.at.is_seen in
    gone_on c.args.going h number seen it c.in_ok-rollout.rollout view _ c.pause_of-paused.ensures _ c.start_of.ensures
    (c.refusal_of.ensures h number it.rollout it.at view ∙ c.in_default-refusal_of.is) _
    (rw c.deref.ensures.value at c.in_err-group.ensures))) c.from_residual-in_err-group.ensures.1
