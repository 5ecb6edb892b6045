use Rattle.desk_store.proofs.Answering.{[], arith, first_at, first_fails, get_group_is, gets_group, one_group, reads_one}
use Rattle.desk_store.proofs.groups.read_group.Goals as goal

pub returns-clause-reads : goal.returns-clause-reads
returns-clause-reads g c = reads_one get_group_is _ (λ db l holds. gets_group db l holds [] c.args.number c.args.group (omega arith))
    (first_at c.in_ok-row.ensures.takes (grind arith)) _ c.read_optional.ensures.ok one_group

pub returns-clause-fails : goal.returns-clause-fails
returns-clause-fails g c = first_fails get_group_is _ (λ row is. is) c.in_ok-row.ensures.takes _ c.read_optional.ensures.err
