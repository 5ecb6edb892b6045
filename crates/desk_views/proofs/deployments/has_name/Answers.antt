use Rattle.desk_views.proofs.Answering.{◌∙◌, same_pointwise}
use Rattle.desk_views.proofs.deployments.has_name.Goals as goal

pub returns : goal.returns
returns c = rw (c.as_str.ensures.value, c.as_str-2.ensures.value) at c.eq.ensures ∙ same_pointwise c.args.artifact.now.filename c.args.filename.now
