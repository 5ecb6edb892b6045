use Rattle.desk_store.proofs.Answering.{all_blamed, kept_artifact, list_all_artifacts_is, refl, rows_read, says_artifact}
use Rattle.desk_store.proofs.artifacts.list_all_artifacts.Goals as goal

pub returns-clause-reads : goal.returns-clause-reads
returns-clause-reads g c = rows_read list_all_artifacts_is (λ tree xs. refl) (λ db t holds row among. refl) _ says_artifact _ kept_artifact
    c.in_ok-rows.ensures.asks _ (rw c.deref.ensures.value at c.read_checked.ensures.ok)

pub returns-clause-blames : goal.returns-clause-blames
returns-clause-blames g c = all_blamed list_all_artifacts_is _ c.in_ok-rows.ensures.asks _ (rw c.deref.ensures.value at c.read_checked.ensures.err)
    (λ reading row among is given. absurd is)
