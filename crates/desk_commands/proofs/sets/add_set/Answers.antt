use Rattle.desk_commands.proofs.Answering.{arith, ◌+◌, ◌∙◌, ap, accepted, refused, set_added, set_row}
use Rattle.desk_commands.proofs.sets.add_set.Goals as goal

pub returns-in-Err-clause-steps : goal.returns-in-Err-clause-steps
returns-in-Err-clause-steps g c = refused c.in_ok-view.ensures.reads (λ r is. set_row r c.args.label.now c.in_ok-view.view is ∙ c.in-Err.ensures)

pub returns-clause-steps : goal.returns-clause-steps
returns-clause-steps g c =
    let label = c.args.label.now in
    accepted c.in_ok-view.ensures.reads
    _ (λ r is. (c.in-Ok.ensures.1 ∙ ap (λ n. n + 1) is.count, grind arith)) c.in_ok-write_whole.ensures.writes
    _ (λ r is. (
      set_row r label _ is ∙ c.in-Ok.ensures.0,
      set_added r label _ _ (c.in-Ok.ensures.1 ∙ ap (λ n. n + 1) is.count) c.in_ok-shown.ensures,
    ))
