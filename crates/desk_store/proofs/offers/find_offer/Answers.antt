use Rattle.desk_store.proofs.Answering.{all_blamed, few_asks, finds_one, get_offer_is, is_word, no_offer, passes_text, refl, says_offer_of, subst, true}
use Rattle.desk_store.proofs.Answering.{two_blamed, two_offers, unread, ◌≡◌}
use Rattle.desk_store.proofs.offers.find_offer.Goals as goal

pub returns-clause-reads : goal.returns-clause-reads
returns-clause-reads g c = finds_one get_offer_is (λ tree xs. refl) (λ db t holds row among. passes_text row 1 c.args.id.now) _
    (says_offer_of c.args.id.now (subst (λ id. is_word id ≡ true) c.as_str.ensures.value c.as_str.ensures.word))
    (rw (c.params-to_sql.ensures, c.as_str.ensures.value, c.in-Some.is) at c.in_ok-rows.ensures.asks) _ (rw c.deref.ensures.value at c.read_at.ensures.ok)

pub returns-in_default-clause-blames : goal.returns-in_default-clause-blames
returns-in_default-clause-blames g c = two_blamed get_offer_is (λ tree xs. refl) (λ db t holds row among. passes_text row 1 c.args.id.now)
    (rw (c.params-to_sql.ensures, c.as_str.ensures.value, c.in_default.is) at c.in_ok-rows.ensures.asks)
    (λ reading two given. unread reading (two_offers c.args.id.now two) given.1)

pub returns-clause-blames : goal.returns-clause-blames
returns-clause-blames g c = all_blamed get_offer_is _ (few_asks (rw c.in-Some.is at c.in_ok-rows.ensures.asks)) _
    (rw c.deref.ensures.value at c.read_at.ensures.err)
    (λ reading row among is given. let it = given.0 row among in absurd (no_offer row it.0 it.1 it.2 is.first is.is))
