use Rattle.desk_store.proofs.Answering.{adds_rollout, arith, put_rollout_is, puts, writes}
use Rattle.desk_store.proofs.rollouts.write_rollout.Goals as goal

pub returns-clause-writes : goal.returns-clause-writes
returns-clause-writes g c = writes (puts put_rollout_is) (adds_rollout c.args.number c.args.plan.now c.args.approval _ _ _) c.run.ensures.runs (grind arith)
