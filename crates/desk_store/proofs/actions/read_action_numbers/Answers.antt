use Rattle.desk_store.proofs.Answering.{ListedAction, ℕ, pos, [], ◌∷◌, sym, ◌∙◌, Int, map-map, all_at, all_fails, arith, list_action_numbers_is}
use Rattle.desk_store.proofs.Answering.{lists_action_numbers, no_action, number_in_is, reads_all, same_int}
use Rattle.desk_store.proofs.actions.read_action_numbers.Goals as goal

pub returns-clause-reads : goal.returns-clause-reads
returns-clause-reads g c = reads_all list_action_numbers_is _ (λ db l holds rows shows. lists_action_numbers db l holds [] c.args.id.now rows shows
    ∙ sym (map-map (λ (n : ℕ). Int (pos n) ∷ []) (λ (a : ListedAction). a.number) _)) (all_at c.in_ok-rows.ensures.asks (grind arith)) _
    (rw c.deref.ensures.value at c.read_all.ensures.ok) (λ a b h. same_int b a (number_in_is _ a h))

pub returns-clause-fails : goal.returns-clause-fails
returns-clause-fails g c = all_fails list_action_numbers_is _ no_action c.in_ok-rows.ensures.asks _ (rw c.deref.ensures.value at c.read_all.ensures.err)
