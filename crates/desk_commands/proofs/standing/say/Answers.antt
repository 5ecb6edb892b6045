use Rattle.desk_commands.proofs.Answering.{Ok, ◌∙◌, ledger_made, ledger_of, records, WritesSaid, accepted_at, refused_at, none_there, said_written, seen_there}
use Rattle.desk_commands.proofs.StandingLemmas.{is_said}
use Rattle.desk_commands.proofs.standing.say.Goals as goal

pub returns-in_default-clause-steps : goal.returns-in_default-clause-steps
returns-in_default-clause-steps g c =
    refused_at (rw c.in_default.is at c.in_ok-found.ensures.reads)
    (λ h valid sees. (is_said c.args.said).lacks (records h) c.args.number (none_there h valid c.args.number sees))

pub returns-in-Some-refusal_of-clause-steps : goal.returns-in-Some-refusal_of-clause-steps
returns-in-Some-refusal_of-clause-steps g c =
    refused_at (rw c.in-Some.is at c.in_ok-found.ensures.reads)
    (λ h valid sees. c.refusal_of.ensures h _ _ (seen_there h valid c.args.number c.in-Some.seen sees).at ∙ c.in-Some-refusal_of.is)

pub returns-clause-steps : goal.returns-clause-steps
returns-clause-steps g c =
    let number = c.args.number in
    let seen = c.in-Some.seen in
    accepted_at (rw c.in-Some.is at c.in_ok-found.ensures.reads)
    (λ r next. WritesSaid c.args.said number seen (ledger_of r) (ledger_of next))
    (λ h valid sees. let it = seen_there h valid number seen sees in said_written c.args.said h number seen it
    (c.refusal_of.ensures h number it.rollout it.at ∙ c.in_default-refusal_of.is))
    (ledger_made (Ok tt) c.in_ok-write_said.ensures.writes)
    _ (λ h valid sees.
    (c.refusal_of.ensures h _ _ (seen_there h valid number seen sees).at ∙ c.in_default-refusal_of.is, (is_said c.args.said).reply _ number))
