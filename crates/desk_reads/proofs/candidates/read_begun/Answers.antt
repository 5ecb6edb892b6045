use Rattle.desk_reads.proofs.Common.{finds_as}
use Rattle.desk_reads.proofs.BegunTargets.{all_begun}
use Rattle.desk_reads.proofs.candidates.read_begun.Goals as goal

pub returns-in_default-clause-reads : goal.returns-in_default-clause-reads
returns-in_default-clause-reads g c = finds_as c.in_ok-all.ensures.reads (λ r is. all_begun r c.args.start.now c.in_ok-all.all.items is)
