use Rattle.desk_views.proofs.Answering.{ap, ◌∙◌, found_then, chunks_of}
use Rattle.desk_views.proofs.deployments.read_chunks.Goals as goal

pub returns-clause-reads : goal.returns-clause-reads
returns-clause-reads g c = found_then c.in_ok-modules.ensures.reads _ c.read_module_chunks.ensures.reads (λ r y is got. got ∙ ap (chunks_of r) is)
