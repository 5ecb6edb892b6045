use Rattle.desk_store.proofs.Answering.{[], all_at, all_tell, arith, counts_places, is_number, known, list_places_is, place_count_blamed, subst, true, ◌∙◌, ◌≡◌}
use Rattle.desk_store.proofs.members.count_places.Goals as goal

pub returns-clause-reads : goal.returns-clause-reads
returns-clause-reads g c = all_tell (known list_places_is) (λ db t holds shown n is. is ∙ counts_places db t holds [] c.args.number
    (subst (λ n. is_number n ≡ true) c.get.ensures.value c.get.ensures.number) c.in_ok-rows.rows.items shown) (all_at c.in_ok-rows.ensures.asks (grind arith)) _
    (rw c.deref.ensures.value at c.row_count.ensures.ok)

pub returns-clause-blames : goal.returns-clause-blames
returns-clause-blames g c = place_count_blamed (rw (c.params-to_sql.ensures, c.get.ensures.value) at c.in_ok-rows.ensures.asks) _
    (rw c.deref.ensures.value at c.row_count.ensures.err)
