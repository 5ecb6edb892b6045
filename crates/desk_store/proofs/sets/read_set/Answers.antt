use Rattle.desk_store.proofs.Answering.{[], arith, both_mapped, called, first_at, first_fails, get_set_is, gets_set, inr, one_set_name, reads_one}
use Rattle.desk_store.proofs.Answering.{shown_set_name, ◌∙◌}
use Rattle.desk_store.proofs.sets.read_set.Goals as goal

pub returns-clause-reads : goal.returns-clause-reads
returns-clause-reads g c = reads_one get_set_is _ (λ db r holds row shown. gets_set db r holds [] c.args.number (omega arith) row shown ∙ both_mapped
    shown_set_name called _) (first_at c.in_ok-row.ensures.takes (grind arith)) _ c.read_optional.ensures.ok one_set_name

pub returns-clause-fails : goal.returns-clause-fails
returns-clause-fails g c = first_fails get_set_is _ (λ row is. inr is) c.in_ok-row.ensures.takes _ c.read_optional.ensures.err
