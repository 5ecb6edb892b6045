use Rattle.desk_store.proofs.Answering.{adds_tag, arith, put_target_tag_is, puts, writes}
use Rattle.desk_store.proofs.targets.write_target_tag.Goals as goal

pub returns-clause-writes : goal.returns-clause-writes
returns-clause-writes g c = writes (puts put_target_tag_is) (adds_tag c.args.id.now c.args.tag.now _ _ _) c.run.ensures.runs (grind arith)
