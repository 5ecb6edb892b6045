use Rattle.desk_store.proofs.Answering.{approval_fails, approval_read}
use Rattle.desk_store.proofs.rollouts.read_approval.Goals as goal

pub returns-clause-reads : goal.returns-clause-reads
returns-clause-reads g c = approval_read c.in_ok-row.ensures.takes _ c.approval_in.ensures.ok

pub returns-clause-fails : goal.returns-clause-fails
returns-clause-fails g c = approval_fails c.in_ok-row.ensures.takes _ c.approval_in.ensures.err
