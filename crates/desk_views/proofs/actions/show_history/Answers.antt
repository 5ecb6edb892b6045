use Rattle.desk_views.proofs.HistoryViews.{history_replied}
use Rattle.desk_views.proofs.Answering.{arith, both_found, finds_as, item_numbered}
use Rattle.desk_views.proofs.actions.show_history.Goals as goal

pub returns-in-None-clause-shows : goal.returns-in-None-clause-shows
returns-in-None-clause-shows g c = finds_as (rw c.in-None.is at c.in_ok-action.ensures.reads) (λ r is of. grind arith)

pub returns-clause-shows : goal.returns-clause-shows
returns-clause-shows g c =
    finds_as (both_found (rw c.in-Some.is at c.in_ok-action.ensures.reads) c.in_ok-content.ensures.reads)
    (λ r is of. history_replied r c.args.id c.args.page (item_numbered r.actions c.args.number) c.in-Some.action c.in_ok-content.content.items is.0 (is.1 of))
