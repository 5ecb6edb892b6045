use Rattle.desk_commands.proofs.Answering.{◌∙◌, is_another}
use Rattle.desk_commands.proofs.artifacts.names_another.Goals as goal

pub returns-in-Some : goal.returns-in-Some
returns-in-Some c = λ same. c.ne.ensures ∙ is_another c.args.upload.now _ _ c.in-Some.is same
