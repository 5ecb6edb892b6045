use Rattle.desk_store.proofs.Answering.{count_fails}
use Rattle.desk_store.proofs.TargetCalls.{count_read}
use Rattle.desk_store.proofs.targets.read_target_count.Goals as goal

pub returns-clause-reads : goal.returns-clause-reads
returns-clause-reads g c = count_read c.in_ok-row.ensures.takes _ c.counted_in.ensures.ok

pub returns-clause-fails : goal.returns-clause-fails
returns-clause-fails g c = count_fails c.in_ok-row.ensures.takes _ c.counted_in.ensures.err
