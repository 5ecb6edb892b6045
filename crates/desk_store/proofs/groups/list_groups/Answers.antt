use Rattle.desk_store.proofs.Answering.{all_blamed, is_number, judges_group, kept_group, list_groups_is, refl, rows_read, says_group, subst, true, ◌≡◌}
use Rattle.desk_store.proofs.groups.list_groups.Goals as goal

pub returns-clause-reads : goal.returns-clause-reads
returns-clause-reads g c = rows_read list_groups_is (λ tree xs. refl) (judges_group c.args.number) _
    (says_group c.args.number (subst (λ n. is_number n ≡ true) c.get.ensures.value c.get.ensures.number)) _ (kept_group c.args.number)
    (rw (c.params-to_sql.ensures, c.get.ensures.value) at c.in_ok-rows.ensures.asks) _ (rw c.deref.ensures.value at c.read_checked.ensures.ok)

pub returns-clause-blames : goal.returns-clause-blames
returns-clause-blames g c = all_blamed list_groups_is _ c.in_ok-rows.ensures.asks _ (rw c.deref.ensures.value at c.read_checked.ensures.err)
    (λ reading row among is given. absurd is)
