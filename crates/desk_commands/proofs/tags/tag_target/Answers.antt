use Rattle.desk_commands.proofs.Answering.{◌≡◌, refl, ◌∙◌, found_held, makes_nothing, Fault, accepted, refused, had_is_step, tag_is_step, tag_row}
use Rattle.desk_commands.proofs.tags.tag_target.Goals as goal

pub returns-in-Err-clause-steps : goal.returns-in-Err-clause-steps
returns-in-Err-clause-steps g c =
    refused c.in_ok-view.ensures.reads (λ r is. tag_row r c.args.id.now c.args.tag.now c.in_ok-view.view is ∙ c.in-Err.ensures)

pub returns-then-view-clause-steps : goal.returns-then-view-clause-steps
returns-then-view-clause-steps g c =
    accepted (found_held (λ db r holds. holds.sorted) c.in_ok-view.ensures.reads)
    (λ r next. next ≡ r) (λ r is. had_is_step r _ _ _ is.1 c.in-Ok.ensures c.if-view.true is.0) (makes_nothing {E = Fault} (λ r next same. same))
    _ (λ r is. (tag_row r _ _ _ is.1 ∙ c.in-Ok.ensures, refl))

pub returns-clause-steps : goal.returns-clause-steps
returns-clause-steps g c =
    accepted c.in_ok-view.ensures.reads
    _ (λ r is. tag_is_step r _ _ _ is c.in-Ok.ensures c.if-view.false) c.in_ok-write_target_tag.ensures.writes
    _ (λ r is. (tag_row r _ _ _ is ∙ c.in-Ok.ensures, refl))
