use Rattle.desk_store.proofs.Answering.{[], all_blamed, few_asks, finds_one, get_action_is, large_count, long_action, passes_rowid, refl, says_numbered}
use Rattle.desk_store.proofs.Answering.{two_actions, two_blamed, unread}
use Rattle.desk_store.proofs.actions.find_action.Goals as goal

pub returns-clause-reads : goal.returns-clause-reads
returns-clause-reads g c = finds_one get_action_is (λ tree xs. refl) (λ db t holds row among. passes_rowid row c.args.number) _ (λ row numbered. says_numbered
    [] row) (rw (c.params-to_sql.ensures, c.get.ensures.value, c.in-Some.is) at c.in_ok-rows.ensures.asks) _ (rw c.deref.ensures.value at c.read_at.ensures.ok)

pub returns-in_default-clause-blames : goal.returns-in_default-clause-blames
returns-in_default-clause-blames g c = two_blamed get_action_is (λ tree xs. refl) (λ db t holds row among. passes_rowid row c.args.number)
    (rw (c.params-to_sql.ensures, c.get.ensures.value, c.in_default.is) at c.in_ok-rows.ensures.asks)
    (λ reading two given. unread reading (two_actions c.args.number two) given.1)

pub returns-clause-blames : goal.returns-clause-blames
returns-clause-blames g c = all_blamed get_action_is _ (few_asks (rw c.in-Some.is at c.in_ok-rows.ensures.asks)) _
    (rw c.deref.ensures.value at c.read_at.ensures.err)
    (λ reading row among is given. let it = given.0 row among in unread reading (large_count row among (long_action row it.0 it.1 it.2 is.first is.is)) given.1)
