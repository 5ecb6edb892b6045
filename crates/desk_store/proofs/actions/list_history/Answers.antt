use Rattle.desk_store.proofs.Answering.{all_at, all_blamed, all_of, arith, broken_entry, col, each_in_order, each_read, entry_columns, judges_entry}
use Rattle.desk_store.proofs.Answering.{list_entries_is, number_order, of_action, refl, says_entry, unread}
use Rattle.desk_store.proofs.actions.list_history.Goals as goal

pub returns-clause-reads : goal.returns-clause-reads
returns-clause-reads g c = each_read list_entries_is {params = all_of c.args.number} (λ tree xs. refl) (judges_entry c.args.number) _ (says_entry c.args.number)
    (all_at c.in_ok-rows.ensures.asks (grind arith)) _ (rw c.deref.ensures.value at c.read_all.ensures.ok)

pub returns-clause-order : goal.returns-clause-order
returns-clause-order g c = each_in_order list_entries_is {params = all_of c.args.number} (λ tree xs. refl) (judges_entry c.args.number) _
    (says_entry c.args.number) (λ e. e.sequence) (λ tree low high a b of_a of_b up. number_order tree of_action entry_columns (col 0 1) (col 0 2)
    (all_of c.args.number) 2 low high a.sequence b.sequence of_a.sequence_is of_b.sequence_is up) (all_at c.in_ok-rows.ensures.asks (grind arith)) _
    (rw c.deref.ensures.value at c.read_all.ensures.ok)

pub returns-clause-blames : goal.returns-clause-blames
returns-clause-blames g c = all_blamed list_entries_is _ c.in_ok-rows.ensures.asks _ (rw c.deref.ensures.value at c.read_all.ensures.err)
    (λ reading row among is given. unread reading (broken_entry row is.0 among is.1) given)
