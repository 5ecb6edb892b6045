use Rattle.desk_store.proofs.Answering.{adds_set_module, arith, put_set_module_is, puts, writes}
use Rattle.desk_store.proofs.sets.write_set_module.Goals as goal

pub returns-clause-writes : goal.returns-clause-writes
returns-clause-writes g c = writes (puts put_set_module_is) (adds_set_module c.args.number c.args.place c.args.added _ _ _) c.run.ensures.runs (grind arith)
