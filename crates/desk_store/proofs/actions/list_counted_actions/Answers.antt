use Rattle.desk_store.proofs.Answering.{[], all_at, all_blamed, all_tell, arith, counts_actions, known, list_actions_is}
use Rattle.desk_store.proofs.actions.list_counted_actions.Goals as goal

pub returns-clause-reads : goal.returns-clause-reads
returns-clause-reads g c = all_tell (known list_actions_is) (λ db t holds shown found read. counts_actions db t holds [] c.args.number c.in_ok-rows.rows.items
    shown found.items read) (all_at c.in_ok-rows.ensures.asks (grind arith)) _ (rw c.deref.ensures.value at c.read_counted.ensures.ok)

pub returns-clause-blames : goal.returns-clause-blames
returns-clause-blames g c = all_blamed list_actions_is _ c.in_ok-rows.ensures.asks _ (rw c.deref.ensures.value at c.read_counted.ensures.err)
    (λ reading row among is given. absurd is)
