use Rattle.desk_store.proofs.Answering.{adds_attribute, arith, put_target_attribute_is, puts, writes}
use Rattle.desk_store.proofs.attributes.write_target_attribute.Goals as goal

pub returns-clause-writes : goal.returns-clause-writes
returns-clause-writes g c = writes (puts put_target_attribute_is) (adds_attribute c.args.id.now c.args.attribute.now _ _ _) c.run.ensures.runs (grind arith)
