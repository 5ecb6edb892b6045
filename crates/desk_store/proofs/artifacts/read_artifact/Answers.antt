use Rattle.desk_store.proofs.Answering.{Artifacts, SaysStored, [], arith, both_mapped, finds_first, first_at, first_fails, get_artifact_is, gets_artifact}
use Rattle.desk_store.proofs.Answering.{has_rowid, inl, inr, one_stored_artifact, passes_rowid, pos, reads_one, refl, said_if_found, says_stored}
use Rattle.desk_store.proofs.Answering.{shown_stored_artifact, stored, ◌∙◌}
use Rattle.desk_store.proofs.artifacts.read_artifact.Goals as goal

pub returns-clause-reads : goal.returns-clause-reads
returns-clause-reads g c = reads_one get_artifact_is _ (λ db r holds row shown. gets_artifact db r holds [] c.args.number (omega arith) row shown ∙ both_mapped
    shown_stored_artifact stored _) (first_at c.in_ok-row.ensures.takes (grind arith)) _ c.read_optional.ensures.ok one_stored_artifact

pub returns-clause-tells : goal.returns-clause-tells
returns-clause-tells g c = finds_first get_artifact_is (λ tree xs. refl) (λ db t holds row among. passes_rowid row c.args.number) _
    (λ row numbered. says_stored [] row) (λ t. said_if_found (t Artifacts) (has_rowid (pos c.args.number)) SaysStored)
    (rw (c.params-to_sql.ensures, c.get.ensures.value) at c.in_ok-row.ensures.takes) _ c.read_optional.ensures.ok

pub returns-clause-fails : goal.returns-clause-fails
returns-clause-fails g c = first_fails get_artifact_is _ (λ row is. inr (inl is)) c.in_ok-row.ensures.takes _ c.read_optional.ensures.err
