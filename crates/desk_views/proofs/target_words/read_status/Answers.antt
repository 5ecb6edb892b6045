use Rattle.desk_views.proofs.WordViews.{word_pending, ending_is, open_is}
use Rattle.desk_views.proofs.Answering.{arith, both_found, finds_as, ledger_found}
use Rattle.desk_views.proofs.target_words.read_status.Goals as goal

pub returns-then-is_some-clause-reads : goal.returns-then-is_some-clause-reads
returns-then-is_some-clause-reads g c = finds_as (ledger_found _ c.in_ok-read_offer.ensures.reads)
    (λ r is. grind (arith, word_pending, rw c.is_some.ensures at c.if-is_some.true))

pub returns-clause-reads : goal.returns-clause-reads
returns-clause-reads g c = finds_as (both_found (ledger_found _ c.in_ok-read_offer.ensures.reads) c.in_ok-last.ensures.reads)
    (λ r is. grind (arith, ending_is, open_is, rw c.is_some.ensures at c.if-is_some.false))
