use Rattle.desk_store.proofs.Answering.{all_at, all_blamed, all_of, arith, col, judges_action, kept_action, large_count, list_actions_is, listed_columns}
use Rattle.desk_store.proofs.Answering.{number_in_is, number_order, of_rollout, refl, rows_in_order, rows_read, says_action, unread}
use Rattle.desk_store.proofs.actions.list_all_actions.Goals as goal

pub returns-clause-reads : goal.returns-clause-reads
returns-clause-reads g c = rows_read list_actions_is {params = all_of c.args.number} (λ tree xs. refl) (judges_action c.args.number) _ (says_action
    c.args.number) _ (kept_action c.args.number) (all_at c.in_ok-rows.ensures.asks (grind arith)) _ (rw c.deref.ensures.value at c.read_checked.ensures.ok)

pub returns-clause-order : goal.returns-clause-order
returns-clause-order g c = rows_in_order list_actions_is {params = all_of c.args.number} (λ tree xs. refl) (judges_action c.args.number) _
    (says_action c.args.number) (λ a. a.number) (λ tree low high a b of_a of_b up. number_order tree of_rollout listed_columns (col 0 1) (col 0 2)
    (all_of c.args.number) 0 low high a.number b.number (number_in_is _ _ of_a.number_is) (number_in_is _ _ of_b.number_is) up) _
    (all_at c.in_ok-rows.ensures.asks (grind arith)) _ (rw c.deref.ensures.value at c.read_checked.ensures.ok)

pub returns-clause-blames : goal.returns-clause-blames
returns-clause-blames g c = all_blamed list_actions_is _ c.in_ok-rows.ensures.asks _ (rw c.deref.ensures.value at c.read_checked.ensures.err)
    (λ reading row among is given. unread reading (large_count row among is) given)
