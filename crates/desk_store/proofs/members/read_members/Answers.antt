use Rattle.desk_store.proofs.Answering.{[], all_at, all_fails, arith, list_members_is, lists_members, reads_all, same_text}
use Rattle.desk_store.proofs.members.read_members.Goals as goal

pub returns-clause-reads : goal.returns-clause-reads
returns-clause-reads g c = reads_all list_members_is _ (λ db l holds. lists_members db l holds [] c.args.number c.args.page.offset c.args.page.limit
    (omega arith)) (all_at c.in_ok-rows.ensures.asks (grind arith)) _ (rw c.deref.ensures.value at c.read_all.ensures.ok) (λ a b h. same_text b a h)

pub returns-clause-fails : goal.returns-clause-fails
returns-clause-fails g c = all_fails list_members_is _ (λ row is. is) c.in_ok-rows.ensures.asks _ (rw c.deref.ensures.value at c.read_all.ensures.err)
