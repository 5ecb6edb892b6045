use Rattle.desk_commands.proofs.Answering.{◌∙◌, accepted, refused, artifact_added, artifact_is_step, artifact_row, is_of_upload}
use Rattle.desk_commands.proofs.artifacts.add_artifact.Goals as goal

pub returns-in-Err-clause-steps : goal.returns-in-Err-clause-steps
returns-in-Err-clause-steps g c = refused c.in_ok-view.ensures.reads (λ r is. artifact_row r c.args.upload.now c.in_ok-view.view is ∙ c.in-Err.ensures)

pub returns-clause-steps : goal.returns-clause-steps
returns-clause-steps g c =
    let u = c.args.upload.now in
    accepted c.in_ok-view.ensures.reads
    _ (λ r is. artifact_is_step u _ r (is_of_upload r u _ c.in-Ok.added is c.in-Ok.ensures.1)) c.in_ok-write_whole.ensures.writes
    _ (λ r is. (artifact_row r u _ is ∙ c.in-Ok.ensures.0, artifact_added r u _ (is_of_upload r u _ c.in-Ok.added is c.in-Ok.ensures.1)))
