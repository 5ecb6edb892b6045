use Rattle.desk_views.proofs.ActionViews.{action_replied}
use Rattle.desk_views.proofs.Answering.{arith, both_found, finds_as, action_of_target}
use Rattle.desk_views.proofs.actions.show_action.Goals as goal

pub returns-in-None-clause-shows : goal.returns-in-None-clause-shows
returns-in-None-clause-shows g c = finds_as (rw c.in-None.is at c.in_ok-action.ensures.reads) (λ r is of. grind arith)

pub returns-clause-shows : goal.returns-clause-shows
returns-clause-shows g c =
    finds_as (both_found (rw c.in-Some.is at c.in_ok-action.ensures.reads) c.in_ok-shown.ensures.reads)
    (λ r is of. action_replied r c.args.number (action_of_target r c.args.id c.args.number) c.in-Some.action c.in_ok-shown.shown is.0 (is.1 of))
