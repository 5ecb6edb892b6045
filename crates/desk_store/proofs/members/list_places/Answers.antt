use Rattle.desk_store.proofs.Answering.{[], all_at, all_blamed, all_tell, arith, is_number, known, list_places_is, lists_places, option_map, subst, true}
use Rattle.desk_store.proofs.Answering.{vec_items, ◌≡◌}
use Rattle.desk_store.proofs.members.list_places.Goals as goal

pub returns-clause-reads : goal.returns-clause-reads
returns-clause-reads g c = all_tell (known list_places_is) (λ db t holds shown found read. lists_places db t holds [] c.args.number
    (subst (λ n. is_number n ≡ true) c.get.ensures.value c.get.ensures.number) c.in_ok-rows.rows.items shown (option_map vec_items found) read)
    (all_at c.in_ok-rows.ensures.asks (grind arith)) _ (rw c.deref.ensures.value at c.read_checked.ensures.ok)

pub returns-clause-blames : goal.returns-clause-blames
returns-clause-blames g c = all_blamed list_places_is _ c.in_ok-rows.ensures.asks _ (rw c.deref.ensures.value at c.read_checked.ensures.err)
    (λ reading row among is given. absurd is)
