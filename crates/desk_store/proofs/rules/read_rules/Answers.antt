use Rattle.desk_store.proofs.Answering.{[], all_at, all_fails, arith, list_rules_is, lists_rules, one_rule, reads_all}
use Rattle.desk_store.proofs.rules.read_rules.Goals as goal

pub returns-clause-reads : goal.returns-clause-reads
returns-clause-reads g c = reads_all list_rules_is _ (λ db l holds. lists_rules db l holds [] c.args.number (omega arith))
    (all_at c.in_ok-rows.ensures.asks (grind arith)) _ (rw c.deref.ensures.value at c.read_all.ensures.ok) one_rule

pub returns-clause-fails : goal.returns-clause-fails
returns-clause-fails g c = all_fails list_rules_is _ (λ row is. is) c.in_ok-rows.ensures.asks _ (rw c.deref.ensures.value at c.read_all.ensures.err)
