use Rattle.desk_store.proofs.Answering.{[], inl, last_artifact_is, last_fails, lasts_artifact, no_key, reads_last}
use Rattle.desk_store.proofs.artifacts.read_last_artifact.Goals as goal

pub returns-clause-reads : goal.returns-clause-reads
returns-clause-reads g c = reads_last last_artifact_is (λ db r holds. lasts_artifact db r holds []) c.in_ok-row.ensures.takes _ c.last_number.ensures.ok

pub returns-clause-fails : goal.returns-clause-fails
returns-clause-fails g c = last_fails last_artifact_is (λ row is. inl (no_key row is)) c.in_ok-row.ensures.takes _ c.last_number.ensures.err
