use Rattle.desk_views.proofs.Answering.{arith, ap, ◌∙◌, both_found, finds_as, item_numbered, groups_shown, page_of, GroupsShown}
use Rattle.desk_views.proofs.Answering.{ledger_found, rules_there, page_showable, never_fails, groups_paged, one_replied}
use Rattle.desk_views.proofs.groups.show_groups.Goals as goal

pub returns-in-None-clause-shows : goal.returns-in-None-clause-shows
returns-in-None-clause-shows g c = finds_as (rw c.in-None.is at c.in_ok-seen.ensures.reads) (λ r is of. grind arith)

pub returns-clause-shows : goal.returns-clause-shows
returns-clause-shows g c =
    finds_as (both_found (rw c.in-Some.is at c.in_ok-seen.ensures.reads) (ledger_found _ c.in_ok-rules.ensures.reads))
    (λ r is of. one_replied (λ x. GroupsShown (page_of c.args.page (groups_shown x x.groups))) (item_numbered r.rollouts c.args.number) c.in-Some.seen _
    (is.0 of)
    (λ x there it. ap GroupsShown
    (groups_paged c.args.page x _ (c.in_ok-shown.ensures.ok x it (c.deref.ensures.value ∙ is.1 ∙ rules_there r c.args.number x there)))))

pub returns-in_err-shown-clause-fails : goal.returns-in_err-shown-clause-fails
returns-in_err-shown-clause-fails g c =
    never_fails (λ l it. it) (both_found (rw c.in-Some.is at c.in_ok-seen.ensures.reads) (ledger_found _ c.in_ok-rules.ensures.reads)) _
    c.in_err-shown.ensures.err
    (λ r is of _ readable bad. page_showable r of c.args.number c.in-Some.seen c.deref.result.now (c.deref.ensures.value ∙ is.1) (is.0 of) c.args.page.limit
    c.args.page.offset bad) _ c.from_residual-in_err-shown.ensures.1
