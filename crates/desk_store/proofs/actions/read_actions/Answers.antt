use Rattle.desk_store.proofs.Answering.{[], all_at, all_fails, arith, inr, list_actions_is, lists_actions, one_listed_action, reads_all}
use Rattle.desk_store.proofs.actions.read_actions.Goals as goal

pub returns-clause-reads : goal.returns-clause-reads
returns-clause-reads g c = reads_all list_actions_is _ (λ db l holds. lists_actions db l holds [] c.args.number c.args.page.limit c.args.page.offset)
    (all_at c.in_ok-rows.ensures.asks (grind arith)) _ (rw c.deref.ensures.value at c.read_all.ensures.ok) one_listed_action

pub returns-clause-fails : goal.returns-clause-fails
returns-clause-fails g c = all_fails list_actions_is _ (λ row is. inr (inr is)) c.in_ok-rows.ensures.asks _ (rw c.deref.ensures.value at c.read_all.ensures.err)
