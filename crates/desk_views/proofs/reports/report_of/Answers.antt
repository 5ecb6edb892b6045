use Rattle.desk_views.proofs.Answering.{sym, ap, ◌∙◌, map, group_shown, groups_mapped}
use Rattle.desk_views.proofs.reports.report_of.Goals as goal

pub returns-clause-ok : goal.returns-clause-ok
returns-clause-ok c = λ x it ruled.
    let groups = c.in_ok-groups.ensures.ok x it ruled ∙ ap (map (group_shown x)) (c.deref.ensures.value ∙ it.groups) ∙ sym (groups_mapped x x.groups) in
    let rollout = c.shown-rollout.ensures x it in
    λ i. record { rollout = rollout i; groups = groups i }
