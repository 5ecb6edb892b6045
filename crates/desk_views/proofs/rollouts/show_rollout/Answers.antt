use Rattle.desk_views.proofs.Answering.{arith, finds_as}
use Rattle.desk_views.proofs.rollouts.show_rollout.Goals as goal

pub returns-in-Some-clause-shows : goal.returns-in-Some-clause-shows
returns-in-Some-clause-shows g c = finds_as (rw c.in-Some.is at c.in_ok-shown.ensures.reads) (λ r is of. grind arith)

pub returns-in-None-clause-shows : goal.returns-in-None-clause-shows
returns-in-None-clause-shows g c = finds_as (rw c.in-None.is at c.in_ok-shown.ensures.reads) (λ r is of. grind arith)
