use Rattle.desk_views.proofs.Common.{arith, option_map}
use Rattle.desk_views.proofs.ActionViews.{tallied}
use Rattle.std.proofs.lemmas.Option.{slice_get-map}
use Rattle.desk_views.proofs.Answering.{sym, ◌∙◌, finds_as, item_numbered, ledger_found, one_action, stored_at}
use Rattle.desk_views.proofs.actions.read_of_target.Goals as goal

pub returns-in-None-clause-reads : goal.returns-in-None-clause-reads
returns-in-None-clause-reads g c = finds_as (rw c.in-None.is at (ledger_found _ c.in_ok-found.ensures.reads))
    (λ r is. grind (arith, option_map, tallied, slice_get-map))

pub returns-then-ne-clause-reads : goal.returns-then-ne-clause-reads
returns-then-ne-clause-reads g c =
    finds_as (rw c.in-Some.is at (ledger_found _ c.in_ok-found.ensures.reads))
    (λ r is. one_action r c.args.id (item_numbered r.actions c.args.number) c.in-Some.found _ (is ∙ stored_at r c.args.number)
    (sym c.ne.ensures ∙ c.if-ne.true))

pub returns-clause-reads : goal.returns-clause-reads
returns-clause-reads g c =
    finds_as (rw c.in-Some.is at (ledger_found _ c.in_ok-found.ensures.reads))
    (λ r is. one_action r c.args.id (item_numbered r.actions c.args.number) c.in-Some.found _ (is ∙ stored_at r c.args.number)
    (sym c.ne.ensures ∙ c.if-ne.false))
