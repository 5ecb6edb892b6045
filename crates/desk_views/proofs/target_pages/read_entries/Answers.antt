use Rattle.desk_views.proofs.Answering.{map, ap, ◌∙◌, both_found, finds_as, worded}
use Rattle.desk_views.proofs.target_pages.read_entries.Goals as goal

pub returns-clause-reads : goal.returns-clause-reads
returns-clause-reads g c =
    finds_as (both_found c.in_ok-targets.ensures.reads c.in_ok-content.ensures.reads) (λ r is ordered. is.1 ∙ ap (map (worded r)) (is.0 ordered))
