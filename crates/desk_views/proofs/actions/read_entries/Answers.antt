use Rattle.desk_views.proofs.Answering.{finds_as, ledger_found}
use Rattle.desk_reads.proofs.HistoryKept.{details_kept}
use Rattle.desk_views.proofs.actions.read_entries.Goals as goal

pub returns-clause-reads : goal.returns-clause-reads
returns-clause-reads g c = finds_as (ledger_found _ c.in_ok-entries.ensures.reads) (λ r is of. is (details_kept r of c.args.number))
