use Rattle.desk_store.proofs.Answering.{all_blamed, kept_offer, list_offers_is, refl, rows_read, says_offer}
use Rattle.desk_store.proofs.offers.list_offers.Goals as goal

pub returns-clause-reads : goal.returns-clause-reads
returns-clause-reads g c = rows_read list_offers_is (λ tree xs. refl) (λ db t holds row among. refl) _ says_offer _ kept_offer c.in_ok-rows.ensures.asks _
    (rw c.deref.ensures.value at c.read_checked.ensures.ok)

pub returns-clause-blames : goal.returns-clause-blames
returns-clause-blames g c = all_blamed list_offers_is _ c.in_ok-rows.ensures.asks _ (rw c.deref.ensures.value at c.read_checked.ensures.err)
    (λ reading row among is given. absurd is)
