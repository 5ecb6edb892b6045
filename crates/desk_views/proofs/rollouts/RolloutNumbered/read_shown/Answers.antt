use Rattle.desk_views.proofs.Answering.{arith, finds_as, item_numbered, one_seen}
use Rattle.desk_views.proofs.rollouts.RolloutNumbered.read_shown.Goals as goal

pub returns-in-Some-clause-reads : goal.returns-in-Some-clause-reads
returns-in-Some-clause-reads g c =
    finds_as (rw c.in-Some.is at c.in_ok-seen.ensures.reads)
    (λ r is of. one_seen (item_numbered r.rollouts c.args.number.now) c.in-Some.seen _ (is of) c.shown.ensures)

pub returns-in-None-clause-reads : goal.returns-in-None-clause-reads
returns-in-None-clause-reads g c = finds_as (rw c.in-None.is at c.in_ok-seen.ensures.reads) (λ r is of. grind arith)
