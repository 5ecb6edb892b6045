use Rattle.desk_store.proofs.Answering.{[], arith, first_at, first_fails, get_module_is, gets_module, inr, one_module_label, reads_one}
use Rattle.desk_store.proofs.modules.read_module.Goals as goal

pub returns-clause-reads : goal.returns-clause-reads
returns-clause-reads g c = reads_one get_module_is _ (λ db r holds. gets_module c.args.number (omega arith) db r holds [])
    (first_at c.in_ok-row.ensures.takes (grind arith)) _ c.read_optional.ensures.ok one_module_label

pub returns-clause-fails : goal.returns-clause-fails
returns-clause-fails g c = first_fails get_module_is _ (λ row is. inr is) c.in_ok-row.ensures.takes _ c.read_optional.ensures.err
