use Rattle.desk_store.proofs.Answering.{[], arith, both_mapped, first_at, first_fails, get_target_is, gets_target, inl, one_stored_target, reads_one}
use Rattle.desk_store.proofs.Answering.{shown_stored_target, stored_target, ◌∙◌}
use Rattle.desk_store.proofs.targets.read_target.Goals as goal

pub returns-clause-reads : goal.returns-clause-reads
returns-clause-reads g c = reads_one get_target_is _ (λ db r holds row shown. gets_target db r holds [] c.args.id.now row shown ∙ both_mapped
    shown_stored_target stored_target _) (first_at c.in_ok-row.ensures.takes (grind arith)) _ c.read_optional.ensures.ok one_stored_target

pub returns-clause-fails : goal.returns-clause-fails
returns-clause-fails g c = first_fails get_target_is _ (λ row is. inl is) c.in_ok-row.ensures.takes _ c.read_optional.ensures.err
