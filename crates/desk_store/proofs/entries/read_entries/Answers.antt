use Rattle.desk_store.proofs.Answering.{all_at, all_fails, arith, entries_read, list_entries_is}
use Rattle.desk_store.proofs.entries.read_entries.Goals as goal

pub returns-clause-reads : goal.returns-clause-reads
returns-clause-reads g c = entries_read c.args.number c.args.page.limit c.args.page.offset (omega arith) (all_at c.in_ok-rows.ensures.asks (grind arith)) _
    (rw c.deref.ensures.value at c.read_all.ensures.ok)

pub returns-clause-fails : goal.returns-clause-fails
returns-clause-fails g c = all_fails list_entries_is _ (λ row is. is) c.in_ok-rows.ensures.asks _ (rw c.deref.ensures.value at c.read_all.ensures.err)
