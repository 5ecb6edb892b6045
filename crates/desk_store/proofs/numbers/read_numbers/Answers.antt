use Rattle.desk_store.proofs.Answering.{SaysNumber, [], all_at, all_blamed, all_fails, arith, broken_number, each_read, inl, judges_number, list_numbers_is}
use Rattle.desk_store.proofs.Answering.{lists_numbers, one_number, reads_all, refl, unread}
use Rattle.desk_store.proofs.numbers.read_numbers.Goals as goal

pub returns-clause-reads : goal.returns-clause-reads
returns-clause-reads g c = reads_all list_numbers_is _ (λ db l holds. lists_numbers db l holds [] c.args.action (omega arith))
    (all_at c.in_ok-rows.ensures.asks (grind arith)) _ (rw c.deref.ensures.value at c.read_all.ensures.ok) one_number

pub returns-clause-fails : goal.returns-clause-fails
returns-clause-fails g c = all_fails list_numbers_is _ (λ row is. inl is) c.in_ok-rows.ensures.asks _ (rw c.deref.ensures.value at c.read_all.ensures.err)

pub returns-clause-tells : goal.returns-clause-tells
returns-clause-tells g c = each_read list_numbers_is (λ tree xs. refl) (judges_number c.args.action) _ {says = SaysNumber} (λ row of it is. is)
    (rw (c.params-to_sql.ensures, c.get.ensures.value) at c.in_ok-rows.ensures.asks) _ (rw c.deref.ensures.value at c.read_all.ensures.ok)

pub returns-clause-blames : goal.returns-clause-blames
returns-clause-blames g c = all_blamed list_numbers_is _ c.in_ok-rows.ensures.asks _ (rw c.deref.ensures.value at c.read_all.ensures.err)
    (λ reading row among is given. unread reading (broken_number row among is) given)
