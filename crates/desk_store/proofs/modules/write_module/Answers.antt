use Rattle.desk_store.proofs.Answering.{HoldsRecords, adds_module, arith, put_module_is, puts, subst, sym, writes}
use Rattle.desk_store.proofs.modules.write_module.Goals as goal

pub returns-clause-writes : goal.returns-clause-writes
returns-clause-writes g c = writes (puts put_module_is) (λ count now next holds change w. subst (HoldsRecords _) (sym change.1)
    (adds_module c.args.label.now c.args.number _ _ _ count now holds change.0 w)) c.run.ensures.runs (grind arith)
