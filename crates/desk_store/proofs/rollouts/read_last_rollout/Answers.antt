use Rattle.desk_store.proofs.Answering.{[], first_tells, inl, known, last_blamed, last_fails, last_tells_only, last_read, last_rollout_is, lasts_any, no_key}
use Rattle.desk_store.proofs.Answering.{never_breaks, read_advances}
use Rattle.desk_store.proofs.rollouts.read_last_rollout.Goals as goal

pub returns-in_err-row-clause-standing : goal.returns-in_err-row-clause-standing
returns-in_err-row-clause-standing g c = read_advances (known last_rollout_is) c.in_err-row.ensures.takes _ (λ bad. c.from_residual.ensures.0)

pub returns-in_err-row-clause-columns : goal.returns-in_err-row-clause-columns
returns-in_err-row-clause-columns g c = never_breaks c.in_err-row.ensures.never _ c.from_residual.ensures.1

pub returns-clause-standing : goal.returns-clause-standing
returns-clause-standing g c = read_advances (known last_rollout_is) c.in_ok-row.ensures.takes _ (λ bad. absurd cc)

pub returns-clause-reads : goal.returns-clause-reads
returns-clause-reads g c = last_read _ _ _ c.in_ok-row.ensures.takes _ c.last_number.ensures.ok

pub returns-clause-fails : goal.returns-clause-fails
returns-clause-fails g c = last_fails last_rollout_is (λ row is. inl (no_key row is)) c.in_ok-row.ensures.takes _ c.last_number.ensures.err

pub returns-clause-columns : goal.returns-clause-columns
returns-clause-columns g c =
    record { to = (last_tells_only last_rollout_is (λ row is. inl (no_key row is)) c.in_ok-row.ensures.takes _ c.last_number.ensures.err).to }

pub returns-clause-tells : goal.returns-clause-tells
returns-clause-tells g c = first_tells (known last_rollout_is) (λ db t holds at given. tt)
    (λ db t holds shown n is. lasts_any db t holds [] c.in_ok-row.row shown n is) c.in_ok-row.ensures.takes _ c.last_number.ensures.ok

pub returns-clause-blames : goal.returns-clause-blames
returns-clause-blames g c = record { to = (last_blamed c.in_ok-row.ensures.takes _ c.last_number.ensures.err).to }
