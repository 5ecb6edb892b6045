use Rattle.desk_store.proofs.Answering.{[], arith, first_at, first_fails, get_rule_is, gets_rule, one_rule, reads_one}
use Rattle.desk_store.proofs.rules.read_rule.Goals as goal

pub returns-clause-reads : goal.returns-clause-reads
returns-clause-reads g c = reads_one get_rule_is _ (λ db l holds. gets_rule db l holds [] c.args.number c.args.group (omega arith))
    (first_at c.in_ok-row.ensures.takes (grind arith)) _ c.read_optional.ensures.ok one_rule

pub returns-clause-fails : goal.returns-clause-fails
returns-clause-fails g c = first_fails get_rule_is _ (λ row is. is) c.in_ok-row.ensures.takes _ c.read_optional.ensures.err
