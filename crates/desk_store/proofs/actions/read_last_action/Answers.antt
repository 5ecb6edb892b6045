use Rattle.desk_store.proofs.Answering.{[], inl, last_action_is, last_fails, lasts_action, no_key, reads_last}
use Rattle.desk_store.proofs.actions.read_last_action.Goals as goal

pub returns-clause-reads : goal.returns-clause-reads
returns-clause-reads g c = reads_last last_action_is (λ db l holds. lasts_action db l holds []) c.in_ok-row.ensures.takes _ c.last_number.ensures.ok

pub returns-clause-fails : goal.returns-clause-fails
returns-clause-fails g c = last_fails last_action_is (λ row is. inl (no_key row is)) c.in_ok-row.ensures.takes _ c.last_number.ensures.err
