use Rattle.desk_reads.proofs.Common.{refl, finds_as, ledger_found}
use Rattle.desk_reads.proofs.SeenRollouts.{seen_is}
use Rattle.desk_reads.proofs.rollouts.read_groups_of.Goals as goal

pub returns-clause-reads : goal.returns-clause-reads
returns-clause-reads g c =
    rw c.seen_as.ensures
    (finds_as (ledger_found _ c.in_ok-groups.ensures.reads) (λ r is of. seen_is r of c.args.number _ c.args.stored refl refl refl refl refl is))
