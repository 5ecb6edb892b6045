use Rattle.desk_store.proofs.Answering.{adds_actions, arith, knows_put_actions, writes}
use Rattle.desk_store.proofs.actions.write_actions.Goals as goal

pub returns-clause-writes : goal.returns-clause-writes
returns-clause-writes g c = writes knows_put_actions (adds_actions c.args.rollout _ _ _) c.run.ensures.runs (grind arith)
