use Rattle.desk_store.proofs.Answering.{[], inl, last_fails, last_set_is, lasts_set, no_key, reads_last}
use Rattle.desk_store.proofs.sets.read_last_set.Goals as goal

pub returns-clause-reads : goal.returns-clause-reads
returns-clause-reads g c = reads_last last_set_is (λ db r holds. lasts_set db r holds []) c.in_ok-row.ensures.takes _ c.last_number.ensures.ok

pub returns-clause-fails : goal.returns-clause-fails
returns-clause-fails g c = last_fails last_set_is (λ row is. inl (no_key row is)) c.in_ok-row.ensures.takes _ c.last_number.ensures.err
