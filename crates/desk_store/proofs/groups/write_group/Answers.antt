use Rattle.desk_store.proofs.Answering.{adds_group, arith, put_group_is, puts, writes}
use Rattle.desk_store.proofs.groups.write_group.Goals as goal

pub returns-clause-writes : goal.returns-clause-writes
returns-clause-writes g c = writes (puts put_group_is) (adds_group c.args.number c.args.group c.args.bounds _ _ _) c.run.ensures.runs (grind arith)
