use Rattle.desk_views.proofs.Answering.{arith, finds_as, matching_replied}
use Rattle.desk_views.proofs.target_pages.show_matching.Goals as goal

pub returns-clause-reads : goal.returns-clause-reads
returns-clause-reads g c = let known = c.in-Ok.ensures.profile in let tree = (c.computed_filter.ensures.tree c.as_str-words.result.now known.0).1 known.1 in
    finds_as c.in_ok-shown.ensures.reads (λ r is. grind (arith, matching_replied, c.as_str-words.ensures, c.in-Ok.ensures.text))
