use Rattle.std.proofs.Common.{arith, length, ap, ◌∙◌}
use Rattle.std.proofs.lemmas.List.{length-map}
use Rattle.rollout_machine.specs.Targets.{Target}
use Rattle.desk_views.proofs.Answering.{both_found, finds_as, all_replied, never_fails}
use Rattle.desk_views.proofs.ListRules.{few_targets}
use Rattle.desk_views.proofs.target_pages.show_all.Goals as goal

pub returns-clause-reads : goal.returns-clause-reads
returns-clause-reads g c =
    finds_as (both_found c.in_ok-ids.ensures.reads c.in_ok-content.ensures.reads)
    (λ r is.
    let many = c.in_ok-total.ensures.ok ∙ ap length (c.deref.ensures.value ∙ is.0) ∙ length-map r.targets (λ (t : Target). t.id) in
    all_replied r c.args.page c.in_ok-content.content c.in_ok-total.total many (is.1 (c.deref-2.ensures.value ∙ is.0)))

pub returns-in_err-total-clause-fails : goal.returns-in_err-total-clause-fails
returns-in_err-total-clause-fails g c =
    never_fails (λ l it. it) c.in_ok-ids.ensures.reads _ c.in_err-total.ensures.err
    (λ r is of _ readable large.
    let many = ap length (c.deref.ensures.value ∙ is) ∙ length-map r.targets (λ (t : Target). t.id) in
    omega (arith, large, many, few_targets r of)) _ c.from_residual-in_err-total.ensures.1
