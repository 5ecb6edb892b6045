use Rattle.desk_store.proofs.Answering.{all_at, all_fails, arith, few_asks, group_and_next_is, group_and_next_read, never_three_groups}
use Rattle.desk_store.proofs.groups.read_group_and_next.Goals as goal

pub returns-clause-reads : goal.returns-clause-reads
returns-clause-reads g c = group_and_next_read c.args.number c.args.place (omega arith)
    (all_at (few_asks (rw c.in-Some.is at c.in_ok-rows.ensures.asks)) (grind arith)) _ (rw c.deref.ensures.value at c.read_both.ensures.ok)

pub returns-in_default-clause-fails : goal.returns-in_default-clause-fails
returns-in_default-clause-fails g c =
    never_three_groups c.args.number c.args.place (omega arith) (grind arith) (rw c.in_default.is at c.in_ok-rows.ensures.asks)

pub returns-clause-fails : goal.returns-clause-fails
returns-clause-fails g c = all_fails group_and_next_is _ (λ row is. is) (few_asks (rw c.in-Some.is at c.in_ok-rows.ensures.asks)) _
    (rw c.deref.ensures.value at c.read_both.ensures.err)
