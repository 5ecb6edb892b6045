use Rattle.desk_store.proofs.Answering.{[], all_at, all_fails, arith, inr, one_listed_target, reads_all, rows_listed, ◌∙◌}
use Rattle.desk_records.proofs.TargetLists.{lists_all_targets}
use Rattle.desk_records.proofs.TargetMeaning.{list_all_targets_is}
use Rattle.desk_store.proofs.targets.read_all_targets.Goals as goal

pub returns-clause-reads : goal.returns-clause-reads
returns-clause-reads g c = reads_all list_all_targets_is _ (λ db r holds rows shown. lists_all_targets db r holds [] rows shown ∙ rows_listed _)
    (all_at c.in_ok-rows.ensures.asks (grind arith)) _ (rw c.deref.ensures.value at c.read_all.ensures.ok) one_listed_target

pub returns-clause-fails : goal.returns-clause-fails
returns-clause-fails g c = all_fails list_all_targets_is _ (λ row is. inr is) c.in_ok-rows.ensures.asks _
    (rw c.deref.ensures.value at c.read_all.ensures.err)
