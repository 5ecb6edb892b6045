use Rattle.desk_views.proofs.Answering.{ap, ◌∙◌, arith, both_found, finds_as, found_held, never_fails}
use Rattle.desk_reads.proofs.Matches.{few_matching, of_tree}
use Rattle.desk_views.proofs.ListRules.{few_targets}
use Rattle.desk_views.proofs.TargetPages.{page_matched}
use Rattle.rollout_machine.specs.Rollouts.{chosen}
use Rattle.std.proofs.Common.{Some, length}
use Rattle.desk_views.proofs.target_pages.read_matching_page.Goals as goal

pub returns-clause-reads : goal.returns-clause-reads
returns-clause-reads g c =
    finds_as (found_held (λ db r holds. holds.sorted) (both_found c.in_ok-ids.ensures.reads c.in_ok-content.ensures.reads))
    (λ r is f tree. page_matched r is.0 f c.args.page c.in_ok-ids.ids.items _ c.in_ok-content.content c.in_ok-total.total
    (of_tree _ f c.in_ok-ids.ids.items (λ f. chosen (Some f) r.targets) is.1.0 tree) (rw c.deref-2.ensures.value at c.ids_on.ensures) is.1.1
    (c.in_ok-total.ensures.ok ∙ ap length c.deref.ensures.value))

pub returns-in_err-total-clause-fails : goal.returns-in_err-total-clause-fails
returns-in_err-total-clause-fails g c =
    never_fails (λ l it. it) c.in_ok-ids.ensures.reads _ c.in_err-total.ensures.err
    (λ r is of _ readable large. omega (arith, large, few_matching r _ c.in_ok-ids.ids.items is, few_targets r of)) _ c.from_residual-in_err-total.ensures.1
