use Rattle.desk_store.proofs.Answering.{IsArtifactRow, SaysListed, [], all_at, all_fails, arith, each_read, inr, judges_artifact, list_artifacts_is}
use Rattle.desk_store.proofs.Answering.{lists_artifacts, one_artifact, reads_all, refl}
use Rattle.desk_store.proofs.artifacts.read_module_artifacts.Goals as goal

pub returns-clause-reads : goal.returns-clause-reads
returns-clause-reads g c = reads_all list_artifacts_is _ (λ db r holds. lists_artifacts db r holds [] c.args.module_number)
    (all_at c.in_ok-rows.ensures.asks (grind arith)) _ (rw c.deref.ensures.value at c.read_all.ensures.ok) one_artifact

pub returns-clause-tells : goal.returns-clause-tells
returns-clause-tells g c = each_read list_artifacts_is (λ tree xs. refl) (judges_artifact c.args.module_number) IsArtifactRow {says = SaysListed}
    (λ row of a is. record { number = is.number; filename = is.filename; size = is.size; digest = is.digest })
    (rw (c.params-to_sql.ensures, c.get.ensures.value) at c.in_ok-rows.ensures.asks) _ (rw c.deref.ensures.value at c.read_all.ensures.ok)

pub returns-clause-fails : goal.returns-clause-fails
returns-clause-fails g c = all_fails list_artifacts_is _ (λ row is. inr (inr is)) c.in_ok-rows.ensures.asks _
    (rw c.deref.ensures.value at c.read_all.ensures.err)
