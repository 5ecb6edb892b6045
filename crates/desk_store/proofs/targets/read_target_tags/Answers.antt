use Rattle.desk_store.proofs.Answering.{[], all_at, all_fails, arith, list_target_tags_is, lists_target_tags, reads_all, same_text}
use Rattle.desk_store.proofs.TargetCalls.{tag_breaks}
use Rattle.desk_store.proofs.targets.read_target_tags.Goals as goal

pub returns-clause-reads : goal.returns-clause-reads
returns-clause-reads g c = reads_all list_target_tags_is _ (λ db r holds. lists_target_tags db r holds [] c.args.id.now)
    (all_at c.in_ok-rows.ensures.asks (grind arith)) _ (rw c.deref.ensures.value at c.read_all.ensures.ok) (λ a b h. same_text b a h)

pub returns-clause-fails : goal.returns-clause-fails
returns-clause-fails g c = all_fails list_target_tags_is _ (λ row is. tag_breaks row is) c.in_ok-rows.ensures.asks _
    (rw c.deref.ensures.value at c.read_all.ensures.err)
