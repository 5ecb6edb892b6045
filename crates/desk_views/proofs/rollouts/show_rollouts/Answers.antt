use Rattle.desk_views.proofs.Answering.{sym, ap, ◌∙◌, finds_as, page_of, RolloutsShown, as_numbered}
use Rattle.desk_views.proofs.rollouts.show_rollouts.Goals as goal

pub returns-clause-shows : goal.returns-clause-shows
returns-clause-shows g c =
    finds_as c.in_ok-shown.ensures.reads (λ r is of. ap RolloutsShown (is of ∙ ap (page_of c.args.page) (sym (as_numbered 1 r.rollouts))))
