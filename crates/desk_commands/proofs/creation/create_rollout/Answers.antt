use Rattle.desk_commands.proofs.Answering.{ap, ◌∙◌, length, both_found, ledger_made, accepted_at, refused, creates, ready, shown_added}
use Rattle.desk_commands.proofs.CreationLemmas.{judged}
use Rattle.desk_commands.proofs.creation.create_rollout.Goals as goal

pub returns-in-Err-clause-steps : goal.returns-in-Err-clause-steps
returns-in-Err-clause-steps g c =
    refused (both_found c.in_ok-chosen.ensures.reads c.in_ok-view.ensures.reads)
    (λ r is. judged r c.args.plan.now c.in_ok-view.view (is.1 is.0) ∙ c.in-Err.ensures)

pub returns-clause-steps : goal.returns-clause-steps
returns-clause-steps g c =
    let plan = c.args.plan.now in
    accepted_at (both_found c.in_ok-chosen.ensures.reads c.in_ok-view.ensures.reads) _
    (λ h valid is. creates plan _ _ h valid (ready plan _ _ c.in_ok-view.view _ is.0 is.1 c.in-Ok.ensures.0 c.in-Ok.ensures.1))
    (ledger_made _ (rw c.deref-3.ensures.value at c.in_ok-write_whole.ensures.writes)) _
    (λ h valid is.
    let it = ready plan _ c.in_ok-chosen.chosen c.in_ok-view.view _ is.0 is.1 c.in-Ok.ensures.0 c.in-Ok.ensures.1 in
    (it.accepted, shown_added plan _ _ _ it _ (c.in-Some.ensures ∙ ap length c.deref.ensures.value) c.in_ok-shown.shown c.in_ok-shown.ensures))
