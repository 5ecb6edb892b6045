use Rattle.desk_store.proofs.Answering.{[], all_at, all_fails, arith, inr, reads_all, same_text}
use Rattle.desk_records.proofs.TargetLists.{lists_target_ids}
use Rattle.desk_records.proofs.TargetMeaning.{list_target_ids_is}
use Rattle.desk_store.proofs.TargetCalls.{id_breaks}
use Rattle.desk_store.proofs.targets.read_target_ids.Goals as goal

pub returns-clause-reads : goal.returns-clause-reads
returns-clause-reads g c = reads_all list_target_ids_is _ (λ db r holds. lists_target_ids db r holds [])
    (all_at c.in_ok-rows.ensures.asks (grind arith)) _ (rw c.deref.ensures.value at c.read_all.ensures.ok) (λ a b h. same_text b a h)

pub returns-clause-fails : goal.returns-clause-fails
returns-clause-fails g c = all_fails list_target_ids_is _ (λ row is. inr (id_breaks row is)) c.in_ok-rows.ensures.asks _
    (rw c.deref.ensures.value at c.read_all.ensures.err)
