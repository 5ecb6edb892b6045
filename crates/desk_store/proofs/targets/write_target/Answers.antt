use Rattle.desk_store.proofs.Answering.{adds_target, arith, put_target_is, puts, writes}
use Rattle.desk_store.proofs.targets.write_target.Goals as goal

pub returns-clause-writes : goal.returns-clause-writes
returns-clause-writes g c = writes (puts put_target_is) (adds_target c.args.id.now c.args.name.now c.args.digest.now _ _ _) c.run.ensures.runs (grind arith)
