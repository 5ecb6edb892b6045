use Rattle.desk_store.proofs.Answering.{[], arith, find_rollout_is, finds_rollout, first_at, reads_whether}
use Rattle.desk_store.proofs.rollouts.read_same_rollout.Goals as goal

pub returns-clause-reads : goal.returns-clause-reads
returns-clause-reads g c = rw c.is_some.ensures
    (reads_whether find_rollout_is (λ db l holds. finds_rollout db l holds [] c.args.name.now) (first_at c.in_ok-row.ensures.takes (grind arith)))
