use Rattle.desk_reads.proofs.Common.{◌∙◌, finds_as, found_held}
use Rattle.desk_reads.proofs.KnownDevices.{known_by, unknown}
use Rattle.desk_reads.proofs.devices.knows_device.Goals as goal

pub returns-in-Some-clause-reads : goal.returns-in-Some-clause-reads
returns-in-Some-clause-reads g c = finds_as (found_held (λ db r holds. holds.sorted) (rw c.in-Some.is at c.in_ok-found.ensures.reads))
    (λ r is. c.eq.ensures ∙ known_by c.args.device.now c.in-Some.stored r is.0 is.1)

pub returns-clause-reads : goal.returns-clause-reads
returns-clause-reads g c = finds_as (rw c.in-None.is at c.in_ok-found.ensures.reads) (λ r is. unknown c.args.device.now r is)
