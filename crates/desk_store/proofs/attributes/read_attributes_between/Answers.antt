use Rattle.desk_store.proofs.Answering.{[], all_at, all_fails, arith, inr, reads_all}
use Rattle.desk_records.proofs.RowsTold.{one_owned_attribute}
use Rattle.desk_records.proofs.OwnedBetween.{lists_attributes_between}
use Rattle.desk_records.proofs.TargetMeaning.{list_attributes_between_is}
use Rattle.desk_store.proofs.attributes.read_attributes_between.Goals as goal

pub returns-clause-reads : goal.returns-clause-reads
returns-clause-reads g c = reads_all list_attributes_between_is _
    (λ db r holds. lists_attributes_between db r holds [] c.args.first.now c.args.last.now) (all_at c.in_ok-rows.ensures.asks (grind arith)) _
    (rw c.deref.ensures.value at c.read_all.ensures.ok) one_owned_attribute

pub returns-clause-fails : goal.returns-clause-fails
returns-clause-fails g c = all_fails list_attributes_between_is _ (λ row is. inr is) c.in_ok-rows.ensures.asks _
    (rw c.deref.ensures.value at c.read_all.ensures.err)
