use Rattle.desk_reads.proofs.Common.{ap, last_in}
use Rattle.desk_reads.proofs.rollouts.last_place.Goals as goal

pub returns-in-Some : goal.returns-in-Some
returns-in-Some c = ap last_in (rw c.in-Some.is at c.last.ensures.value)

pub returns-in-None : goal.returns-in-None
returns-in-None c = ap last_in (rw c.in-None.is at c.last.ensures.value)
