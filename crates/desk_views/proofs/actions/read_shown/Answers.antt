use Rattle.desk_views.proofs.Answering.{ap, ◌∙◌, finds_as, group_holding, ledger_found, shown_in, groups_are}
use Rattle.desk_views.proofs.actions.read_shown.Goals as goal

pub returns-clause-reads : goal.returns-clause-reads
returns-clause-reads g c =
    finds_as (ledger_found _ c.in_ok-group.ensures.reads)
    (λ r is of. c.shown_in.ensures
    ∙ ap (shown_in c.args.listed.now) (is ∙ ap (group_holding c.args.listed.now.action.position) (groups_are r of c.args.listed.now.action.rollout)))
