use Rattle.desk_store.proofs.Answering.{[], arith, find_set_is, finds_set, first_at, reads_whether}
use Rattle.desk_store.proofs.sets.read_same_set.Goals as goal

pub returns-clause-reads : goal.returns-clause-reads
returns-clause-reads g c = rw c.is_some.ensures
    (reads_whether find_set_is (λ db r holds. finds_set db r holds [] c.args.name.now c.args.version.now) (first_at c.in_ok-row.ensures.takes (grind arith)))
