use Rattle.desk_commands.proofs.Answering.{◌∙◌, refl, both_found, found_held, accepted, refused, attributes_row, gives_all}
use Rattle.desk_commands.proofs.attributes.put_attributes.Goals as goal

pub returns-in-Err-clause-steps : goal.returns-in-Err-clause-steps
returns-in-Err-clause-steps g c =
    let viewed = rw (c.as_slice-had.ensures.value, c.as_slice-given.ensures.value) at c.view_of-view.ensures in
    refused (found_held (λ db r holds. holds.sorted) (both_found c.in_ok-known.ensures.reads c.in_ok-attributes.ensures.reads))
    (λ r is. attributes_row r _ _ _ (viewed c.args.device.now r is.1.0 is.1.1 is.0) ∙ c.in-Err.ensures)

pub returns-clause-steps : goal.returns-clause-steps
returns-clause-steps g c =
    let device = c.args.device.now in
    let viewed = rw (c.as_slice-had.ensures.value, c.as_slice-given.ensures.value) at c.view_of-view.ensures in
    accepted (found_held (λ db r holds. holds.sorted) (both_found c.in_ok-known.ensures.reads c.in_ok-attributes.ensures.reads))
    _ (λ r is. gives_all r device _ _ is.1.1 _ (viewed device r is.1.0 is.1.1 is.0) c.in-Ok.ensures)
    (rw (c.as_slice-had.ensures.value, c.as_slice-given.ensures.value) at c.in_ok-give_attributes.ensures.writes)
    _ (λ r is. (attributes_row r device _ _ (viewed device r is.1.0 is.1.1 is.0) ∙ c.in-Ok.ensures, refl))
