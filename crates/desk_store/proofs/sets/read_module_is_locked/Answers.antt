use Rattle.desk_store.proofs.Answering.{[], arith, finds_lock, first_at, module_locked_is, reads_whether}
use Rattle.desk_store.proofs.sets.read_module_is_locked.Goals as goal

pub returns-clause-reads : goal.returns-clause-reads
returns-clause-reads g c = rw c.is_some.ensures
    (reads_whether module_locked_is (λ db r holds. finds_lock db r holds [] c.args.number) (first_at c.in_ok-row.ensures.takes (grind arith)))
