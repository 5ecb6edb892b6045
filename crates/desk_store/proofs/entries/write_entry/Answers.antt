use Rattle.desk_store.proofs.Answering.{adds_entry, arith, put_feedback_is, puts, writes}
use Rattle.desk_store.proofs.entries.write_entry.Goals as goal

pub returns-clause-writes : goal.returns-clause-writes
returns-clause-writes g c = writes (puts put_feedback_is) (adds_entry c.args.number c.args.sequence c.args.entry.now _ _ _) c.run.ensures.runs (grind arith)
