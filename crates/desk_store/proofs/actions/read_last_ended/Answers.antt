use Rattle.desk_store.proofs.Answering.{[], arith, first_at, first_fails, inr, last_ended_is, lasts_ended, one_listed_action, reads_one}
use Rattle.desk_store.proofs.actions.read_last_ended.Goals as goal

pub returns-clause-reads : goal.returns-clause-reads
returns-clause-reads g c = reads_one last_ended_is _ (λ db l holds. lasts_ended db l holds [] c.args.id.now) (first_at c.in_ok-row.ensures.takes (grind arith))
    _ c.read_optional.ensures.ok one_listed_action

pub returns-clause-fails : goal.returns-clause-fails
returns-clause-fails g c = first_fails last_ended_is _ (λ row is. inr (inr is)) c.in_ok-row.ensures.takes _ c.read_optional.ensures.err
