use Rattle.desk_store.proofs.Answering.{arith, changes, set_target_attribute_is, sets_attribute, writes}
use Rattle.desk_store.proofs.attributes.change_target_attribute.Goals as goal

pub returns-clause-writes : goal.returns-clause-writes
returns-clause-writes g c = writes (changes set_target_attribute_is) (sets_attribute c.args.id.now c.args.attribute.now _ _ _) c.run.ensures.runs (grind arith)
