use Rattle.desk_store.proofs.Answering.{AreReadAs, IsAttributeRow, [], all_at, all_fails, all_read, all_tell, arith, in_ledgers, inl, known}
use Rattle.desk_store.proofs.Answering.{list_target_attributes_is, lists_target_attributes, one_attribute, shown_attribute, subst}
use Rattle.desk_store.proofs.attributes.read_target_attributes.Goals as goal

pub returns-clause-reads : goal.returns-clause-reads
returns-clause-reads g c = all_tell (in_ledgers (known list_target_attributes_is)) (λ db r holds shown found read. all_read IsAttributeRow shown_attribute
    one_attribute found _ (subst (λ l. AreReadAs IsAttributeRow l found) (lists_target_attributes db r holds [] c.args.id.now c.in_ok-rows.rows.items shown)
    read)) (all_at c.in_ok-rows.ensures.asks (grind arith)) _ (rw c.deref.ensures.value at c.read_attributes.ensures.ok)

pub returns-clause-fails : goal.returns-clause-fails
returns-clause-fails g c = all_fails list_target_attributes_is _ (λ row is. inl is) c.in_ok-rows.ensures.asks _
    (rw c.deref.ensures.value at c.read_attributes.ensures.err)
