use Rattle.desk_store.proofs.Answering.{[], arith, find_module_is, finds_module, first_at, reads_whether}
use Rattle.desk_store.proofs.modules.read_same_module.Goals as goal

pub returns-clause-reads : goal.returns-clause-reads
returns-clause-reads g c = rw c.is_some.ensures
    (reads_whether find_module_is (λ db r holds. finds_module c.args.label.now db r holds []) (first_at c.in_ok-row.ensures.takes (grind arith)))
