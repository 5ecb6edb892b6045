use Rattle.desk_store.proofs.Answering.{[], all_at, all_fails, arith, reads_all}
use Rattle.desk_records.proofs.RowsTold.{one_owned_tag}
use Rattle.desk_records.proofs.OwnedBetween.{lists_tag_between}
use Rattle.desk_records.proofs.TargetMeaning.{list_tag_between_is}
use Rattle.desk_store.proofs.targets.read_tag_between.Goals as goal

pub returns-clause-reads : goal.returns-clause-reads
returns-clause-reads g c = reads_all list_tag_between_is _ (λ db r holds. lists_tag_between db r holds [] c.args.first.now c.args.last.now c.args.tag.now)
    (all_at c.in_ok-rows.ensures.asks (grind arith)) _ (rw c.deref.ensures.value at c.read_all.ensures.ok) one_owned_tag

pub returns-clause-fails : goal.returns-clause-fails
returns-clause-fails g c = all_fails list_tag_between_is _ (λ row is. is) c.in_ok-rows.ensures.asks _ (rw c.deref.ensures.value at c.read_all.ensures.err)
