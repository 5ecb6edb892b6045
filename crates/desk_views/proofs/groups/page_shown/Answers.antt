use Rattle.desk_views.proofs.Answering.{map, group_shown, ap, ◌∙◌, take, drop, rules}
use Rattle.desk_views.proofs.PageLemmas.{page_mapped}
use Rattle.desk_views.proofs.groups.page_shown.Goals as goal

pub returns-clause-ok : goal.returns-clause-ok
returns-clause-ok c = λ x it ruled. page_mapped (group_shown x) c.args.page c.args.seen.now.groups.items _ _ _ c.in-Ok.total
    (ap (map (group_shown x)) it.groups)
    (c.part_on.ensures ∙ ap (λ l. take c.args.page.limit (drop c.args.page.offset l)) c.deref.ensures.value) (c.in_ok-content.ensures.ok x it ruled)
    (search rules)
