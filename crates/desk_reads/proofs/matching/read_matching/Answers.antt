use Rattle.desk_reads.proofs.Common.{both_found, finds_as, length}
use Rattle.target_filter.specs.Profile.{filter_of}
use Rattle.desk_reads.proofs.BegunTargets.{few_candidates}
use Rattle.desk_reads.proofs.Matches.{matching_are, reads_of_all}
use Rattle.desk_reads.proofs.matching.read_matching.Goals as goal

pub returns-clause-reads : goal.returns-clause-reads
returns-clause-reads g c = finds_as (both_found c.in_ok-listed.ensures.reads c.in_ok-ids.ensures.reads)
    (λ r is. matching_are r _ c.in_ok-listed.listed.items c.in_ok-ids.ids.items is.0 is.1)

pub returns-clause-work : goal.returns-clause-work
returns-clause-work g c = finds_as (both_found c.in_ok-listed.ensures.reads c.in_ok-ids.ensures.reads)
    (λ r is. reads_of_all (filter_of c.args.filter.now) (length c.in_ok-listed.listed.items) (length r.targets) _ _ _
    (few_candidates r _ c.in_ok-listed.listed.items is.0) c.in_ok-listed.ensures.work c.in_ok-ids.ensures.work)
