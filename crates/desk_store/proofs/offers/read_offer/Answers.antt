use Rattle.desk_store.proofs.Answering.{[], arith, finds_first, first_at, first_fails, get_offer_is, gets_offer, is_word, one_offer, passes_text, reads_one}
use Rattle.desk_store.proofs.Answering.{refl, says_offer_of, subst, true, ◌≡◌}
use Rattle.desk_store.proofs.offers.read_offer.Goals as goal

pub returns-clause-reads : goal.returns-clause-reads
returns-clause-reads g c = reads_one get_offer_is _ (λ db l holds. gets_offer db l holds [] c.args.id.now) (first_at c.in_ok-row.ensures.takes (grind arith)) _
    c.read_optional.ensures.ok one_offer

pub returns-clause-tells : goal.returns-clause-tells
returns-clause-tells g c = finds_first get_offer_is (λ tree xs. refl) (λ db t holds row among. passes_text row 1 c.args.id.now) _
    (says_offer_of c.args.id.now (subst (λ id. is_word id ≡ true) c.as_str.ensures.value c.as_str.ensures.word)) (λ t found first. first)
    (rw (c.params-to_sql.ensures, c.as_str.ensures.value) at c.in_ok-row.ensures.takes) _ c.read_optional.ensures.ok

pub returns-clause-fails : goal.returns-clause-fails
returns-clause-fails g c = first_fails get_offer_is _ (λ row is. is) c.in_ok-row.ensures.takes _ c.read_optional.ensures.err
