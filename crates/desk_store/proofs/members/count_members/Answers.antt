use Rattle.desk_store.proofs.Answering.{count_blamed, count_members_is, count_read}
use Rattle.desk_store.proofs.members.count_members.Goals as goal

pub returns-clause-reads : goal.returns-clause-reads
returns-clause-reads g c = count_read count_members_is c.in_ok-row.ensures.takes _ c.counted_in.ensures.ok

pub returns-clause-blames : goal.returns-clause-blames
returns-clause-blames g c = count_blamed count_members_is c.in_ok-row.ensures.takes _ c.counted_in.ensures.err
