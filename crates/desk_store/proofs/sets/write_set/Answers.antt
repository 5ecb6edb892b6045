use Rattle.desk_store.proofs.Answering.{HoldsRecords, adds_set, arith, put_set_is, puts, subst, sym, writes}
use Rattle.desk_store.proofs.sets.write_set.Goals as goal

pub returns-clause-writes : goal.returns-clause-writes
returns-clause-writes g c = writes (puts put_set_is) (λ count now next holds change w. subst (HoldsRecords _) (sym change.1)
    (adds_set c.args.name.now c.args.version.now c.args.number _ _ _ count now holds change.0 w)) c.run.ensures.runs (grind arith)
