use Rattle.desk_commands.proofs.Answering.{arith, ◌+◌, ◌∙◌, ap, both_found, accepted, refused, module_added, module_row}
use Rattle.desk_commands.proofs.modules.add_module.Goals as goal

pub returns-in-Err-clause-steps : goal.returns-in-Err-clause-steps
returns-in-Err-clause-steps g c = refused c.in_ok-view.ensures.reads (λ r is. module_row r c.args.label.now c.in_ok-view.view is ∙ c.in-Err.ensures)

pub returns-clause-steps : goal.returns-clause-steps
returns-clause-steps g c =
    let label = c.args.label.now in
    accepted (both_found c.in_ok-view.ensures.reads c.in_ok-locked.ensures.reads)
    _ (λ r is. (c.in-Ok.ensures.1 ∙ ap (λ n. n + 1) is.0.count, grind arith)) c.in_ok-write_module.ensures.writes
    _ (λ r is. (
      module_row r label _ is.0 ∙ c.in-Ok.ensures.0,
      module_added r label _ _ _ (c.in-Ok.ensures.1 ∙ ap (λ n. n + 1) is.0.count) is.1 c.in_ok-shown.ensures,
    ))
