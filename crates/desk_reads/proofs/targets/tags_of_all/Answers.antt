use Rattle.desk_reads.proofs.Common.{[], finds_as, found_held}
use Rattle.sql_calls.proofs.Composing.{known}
use Rattle.desk_reads.proofs.Owned.{none_listed, tags_between}
use Rattle.desk_reads.proofs.targets.tags_of_all.Goals as goal

pub returns-in_default-clause-reads : goal.returns-in_default-clause-reads
returns-in_default-clause-reads g c = known (λ r. rw (c.in_default.ensures, c.new.ensures.items) (none_listed r []))

pub returns-clause-reads : goal.returns-clause-reads
returns-clause-reads g c = finds_as (found_held (λ db r holds. holds.sorted) c.in_ok-owned.ensures.reads)
    (λ r is. tags_between r is.0 _ _ c.args.listed.now c.in_ok-owned.owned.items c.in-Some.ensures is.1)
