use Rattle.desk_commands.proofs.Answering.{◌∙◌, accepted, refused, refl, untag_row}
use Rattle.desk_commands.proofs.tags.untag_target.Goals as goal

pub returns-in-Err-clause-steps : goal.returns-in-Err-clause-steps
returns-in-Err-clause-steps g c =
    refused c.in_ok-misses_target.ensures.reads (λ r is. untag_row r _ c.args.tag.now _ (record { misses_target = is }) ∙ c.in-Err.ensures)

pub returns-clause-steps : goal.returns-clause-steps
returns-clause-steps g c =
    accepted c.in_ok-misses_target.ensures.reads
    _ (λ r is. refl) c.in_ok-drop_target_tag.ensures.writes
    _ (λ r is. (untag_row r _ c.args.tag.now _ (record { misses_target = is }) ∙ c.in-Ok.ensures, refl))
