use Rattle.desk_store.proofs.Answering.{[], all_at, all_fails, arith, list_set_modules_is, lists_set_modules, reads_all, same_int}
use Rattle.desk_store.proofs.sets.read_set_modules.Goals as goal

pub returns-clause-reads : goal.returns-clause-reads
returns-clause-reads g c = reads_all list_set_modules_is _ (λ db r holds. lists_set_modules db r holds [] c.args.number (omega arith))
    (all_at c.in_ok-rows.ensures.asks (grind arith)) _ (rw c.deref.ensures.value at c.read_all.ensures.ok) (λ a b h. same_int b a h)

pub returns-clause-fails : goal.returns-clause-fails
returns-clause-fails g c = all_fails list_set_modules_is _ (λ row is. is) c.in_ok-rows.ensures.asks _ (rw c.deref.ensures.value at c.read_all.ensures.err)
