use Rattle.desk_views.proofs.Answering.{ap, finds_as, ledger_found, group_is_started}
use Rattle.desk_views.proofs.target_words.read_is_begun.Goals as goal

pub returns-in-Some-clause-reads : goal.returns-in-Some-clause-reads
returns-in-Some-clause-reads g c = finds_as (ledger_found _ (rw c.in-Some.is at c.in_ok-group.ensures.reads)) (λ r is. ap group_is_started is)

pub returns-in-None-clause-reads : goal.returns-in-None-clause-reads
returns-in-None-clause-reads g c = finds_as (ledger_found _ (rw c.in-None.is at c.in_ok-group.ensures.reads)) (λ r is. ap group_is_started is)
