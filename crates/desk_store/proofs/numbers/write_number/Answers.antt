use Rattle.desk_store.proofs.Answering.{adds_number, arith, put_number_is, puts, writes}
use Rattle.desk_store.proofs.numbers.write_number.Goals as goal

pub returns-clause-writes : goal.returns-clause-writes
returns-clause-writes g c = writes (puts put_number_is) (adds_number c.args.action c.args.place c.args.it.now _ _ _) c.run.ensures.runs (grind arith)
