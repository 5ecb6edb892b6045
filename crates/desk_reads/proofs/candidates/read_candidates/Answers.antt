use Rattle.desk_reads.proofs.Common.{◌∙◌, finds_as, found_held}
use Rattle.desk_reads.proofs.BegunTargets.{candidates_are, unnamed_are}
use Rattle.desk_reads.proofs.candidates.read_candidates.Goals as goal

pub returns-then-not-names_names-clause-reads : goal.returns-then-not-names_names-clause-reads
returns-then-not-names_names-clause-reads g c = finds_as (found_held (λ db r holds. holds.sorted) c.in_ok-ids.ensures.reads)
    (λ r is. unnamed_are r is.0 _ _ c.in_ok-all.all.items c.names_names.ensures.computed c.if-not-names_names.true (c.in_ok-all.ensures.ok ∙ is.1))

pub returns-clause-reads : goal.returns-clause-reads
returns-clause-reads g c = finds_as (found_held (λ db r holds. holds.sorted) c.in_ok-listed.ensures.reads)
    (λ r is. candidates_are r is.0 _ _ c.in_ok-listed.listed.items c.id_start-start.ensures.computed is.1)
