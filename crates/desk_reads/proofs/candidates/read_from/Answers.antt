use Rattle.desk_reads.proofs.Common.{finds_as, subst, sym}
use Rattle.desk_reads.proofs.BegunTargets.{all_begun, between_begun}
use Rattle.desk_reads.specs.private.Candidates.{IsNextTo}
use Rattle.desk_reads.proofs.candidates.read_from.Goals as goal

pub returns-in_default-clause-reads : goal.returns-in_default-clause-reads
returns-in_default-clause-reads g c = finds_as c.in_ok-all.ensures.reads (λ r is. all_begun r c.args.first.now c.in_ok-all.all.items is)

pub returns-clause-reads : goal.returns-clause-reads
returns-clause-reads g c =
    let next = subst (IsNextTo c.args.first.now) (sym c.as_str.ensures.value) (rw c.in-Some.is at c.in_ok-next.ensures.ok) in
    finds_as c.in_ok-listed.ensures.reads (λ r is. between_begun r c.args.first.now _ c.in_ok-listed.listed.items next is)
