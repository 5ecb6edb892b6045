use Rattle.desk_store.proofs.Answering.{arith, changes, set_rollout_is, sets_rollout, writes}
use Rattle.desk_store.proofs.rollouts.change_rollout.Goals as goal

pub returns-clause-writes : goal.returns-clause-writes
returns-clause-writes g c = writes (changes set_rollout_is) (sets_rollout c.args.number c.args.approval c.args.started c.args.paused _ _ _) c.run.ensures.runs
    (grind arith)
