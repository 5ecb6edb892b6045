use Rattle.desk_store.proofs.Answering.{[], arith, find_artifact_is, finds_artifact, first_at, reads_whether}
use Rattle.desk_store.proofs.artifacts.read_same_artifact.Goals as goal

pub returns-clause-reads : goal.returns-clause-reads
returns-clause-reads g c = rw c.is_some.ensures (reads_whether find_artifact_is
    (λ db r holds. finds_artifact db r holds [] c.args.module_number c.args.filename.now) (first_at c.in_ok-row.ensures.takes (grind arith)))
