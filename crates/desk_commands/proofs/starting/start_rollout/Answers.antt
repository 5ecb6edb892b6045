use Rattle.desk_commands.proofs.Answering.{Ok, refl, ◌∙◌, arith, both_found, ledger_found, ledger_made, ledger_of, StartsWhole, accepted_at}
use Rattle.desk_commands.proofs.Answering.{refused_at, none_there, seen_there, never_at, never_missing, writes_end, first_there, found_in, numbers_left}
use Rattle.desk_commands.proofs.Answering.{starts_whole, ok_or_some}
use Rattle.desk_commands.proofs.starting.start_rollout.Goals as goal

pub returns-in_default-clause-steps : goal.returns-in_default-clause-steps
returns-in_default-clause-steps g c =
    refused_at (rw c.in_default.is at c.in_ok-found.ensures.reads) (λ h valid sees. rw (none_there h valid c.args.number sees) refl)

pub returns-in-Some-start_refusal-clause-steps : goal.returns-in-Some-start_refusal-clause-steps
returns-in-Some-start_refusal-clause-steps g c =
    refused_at (rw c.in-Some.is at c.in_ok-found.ensures.reads)
    (λ h valid sees. c.start_refusal.ensures h _ _ (seen_there h valid c.args.number c.in-Some.seen sees).at ∙ c.in-Some-start_refusal.is)

pub returns-clause-steps : goal.returns-clause-steps
returns-clause-steps g c =
    let number = c.args.number in
    let seen = c.in-Some.seen in
    accepted_at
    (both_found (rw c.in-Some.is at c.in_ok-found.ensures.reads) (ledger_found _ c.in_ok-last.ensures.reads))
    (λ r next. StartsWhole number seen c.in_ok-first.first (ledger_of r) (ledger_of next))
    (λ h valid is.
    let it = seen_there h valid number seen is.0 in
    starts_whole h valid number seen _ it (c.start_refusal.ensures h number it.rollout it.at ∙ c.in_default-start_refusal.is)
    (ok_or_some _ c.in_ok-first.ensures))
    (ledger_made (Ok tt) c.in_ok-write_start.ensures.writes) _
    (λ h valid is. (c.start_refusal.ensures h _ _ (seen_there h valid number seen is.0).at ∙ c.in_default-start_refusal.is, refl))

pub returns-in_err-first-clause-fails : goal.returns-in_err-first-clause-fails
returns-in_err-first-clause-fails g c =
    writes_end (never_at (λ l given. given.of_list)
    (both_found (rw c.in-Some.is at c.in_ok-found.ensures.reads) (ledger_found _ c.in_ok-last.ensures.reads))
    (λ h valid is given.
    never_missing _ c.in_err-first.ensures (first_there _ _ _ (found_in h _ _ (seen_there h valid c.args.number c.in-Some.seen is.0))).1))
    c.from_residual-in_err-first.ensures.1

pub returns-in_err-check_numbers-clause-fails : goal.returns-in_err-check_numbers-clause-fails
returns-in_err-check_numbers-clause-fails g c =
    writes_end (never_at (λ l given. given.of_list)
    (both_found (rw c.in-Some.is at c.in_ok-found.ensures.reads) (ledger_found _ c.in_ok-last.ensures.reads))
    (λ h valid is given.
    let it = seen_there h valid c.args.number c.in-Some.seen is.0 in
    let left = numbers_left h valid _ _ it _ _ is.1 (c.members.ensures it.rollout it.at.is_seen) in
    let many = c.in_err-check_numbers.ensures.1 in
    omega (arith, many, left))) c.from_residual-in_err-check_numbers.ensures.1
