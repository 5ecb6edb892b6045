use Rattle.desk_store.proofs.Answering.{[], arith, first_at, first_fails, inr, last_number_is, lasts_number, one_last_number, reads_one}
use Rattle.desk_store.proofs.numbers.read_last_number.Goals as goal

pub returns-clause-reads : goal.returns-clause-reads
returns-clause-reads g c = reads_one last_number_is _ (λ db l holds. lasts_number db l holds [] c.args.action (omega arith))
    (first_at c.in_ok-row.ensures.takes (grind arith)) _ c.read_optional.ensures.ok one_last_number

pub returns-clause-fails : goal.returns-clause-fails
returns-clause-fails g c = first_fails last_number_is _ (λ row is. inr is) c.in_ok-row.ensures.takes _ c.read_optional.ensures.err
