use Rattle.desk_store.proofs.Answering.{IsRollout, all_blamed, broken_rollout, few_asks, finds_one, get_rollout_is, passes_rowid, refl, two_blamed}
use Rattle.desk_store.proofs.Answering.{two_rollouts, unread}
use Rattle.desk_store.proofs.rollouts.find_rollout.Goals as goal

pub returns-clause-reads : goal.returns-clause-reads
returns-clause-reads g c = finds_one get_rollout_is (λ tree xs. refl) (λ db t holds row among. passes_rowid row c.args.number) _ {says = IsRollout} (λ row
    numbered x is. is) (rw (c.params-to_sql.ensures, c.get.ensures.value, c.in-Some.is) at c.in_ok-rows.ensures.asks) _
    (rw c.deref.ensures.value at c.read_at.ensures.ok)

pub returns-in_default-clause-blames : goal.returns-in_default-clause-blames
returns-in_default-clause-blames g c = two_blamed get_rollout_is (λ tree xs. refl) (λ db t holds row among. passes_rowid row c.args.number)
    (rw (c.params-to_sql.ensures, c.get.ensures.value, c.in_default.is) at c.in_ok-rows.ensures.asks)
    (λ reading two given. unread reading (two_rollouts c.args.number two) given)

pub returns-clause-blames : goal.returns-clause-blames
returns-clause-blames g c = all_blamed get_rollout_is _ (few_asks (rw c.in-Some.is at c.in_ok-rows.ensures.asks)) _
    (rw c.deref.ensures.value at c.read_at.ensures.err) (λ reading row among is given. unread reading (broken_rollout row among is) given)
