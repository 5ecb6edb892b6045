use Rattle.desk_store.proofs.Answering.{arith, first_at, first_fails, first_tells_only, get_rollout_is, inr, known, never_breaks, read_advances, rollout_read}
use Rattle.desk_store.proofs.rollouts.read_rollout.Goals as goal

pub returns-in_err-row-clause-standing : goal.returns-in_err-row-clause-standing
returns-in_err-row-clause-standing g c = read_advances (known get_rollout_is) c.in_err-row.ensures.takes _ (λ bad. c.from_residual.ensures.0)

pub returns-in_err-row-clause-columns : goal.returns-in_err-row-clause-columns
returns-in_err-row-clause-columns g c = never_breaks c.in_err-row.ensures.never _ c.from_residual.ensures.1

pub returns-clause-standing : goal.returns-clause-standing
returns-clause-standing g c = read_advances (known get_rollout_is) c.in_ok-row.ensures.takes _ (λ bad. absurd cc)

pub returns-clause-reads : goal.returns-clause-reads
returns-clause-reads g c = rollout_read c.args.number (omega arith) _ _ _ (first_at c.in_ok-row.ensures.takes (grind arith)) _ c.read_optional.ensures.ok

pub returns-clause-fails : goal.returns-clause-fails
returns-clause-fails g c = first_fails get_rollout_is _ (λ row is. inr is) c.in_ok-row.ensures.takes _ c.read_optional.ensures.err

pub returns-clause-columns : goal.returns-clause-columns
returns-clause-columns g c = record { to = (first_tells_only get_rollout_is _ (λ row is. inr is) c.in_ok-row.ensures.takes _ c.read_optional.ensures.err).to }
