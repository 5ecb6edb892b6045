use Rattle.desk_views.proofs.Answering.{arith, sym, ap, ◌∙◌, not, map, take, drop, length, same_bytes, actor_of, is_some, both_found}
use Rattle.desk_views.proofs.Answering.{finds_as, stored_target, actions_of_target, page_of, ActionsShown, target_of, ledger_found, ShownAction}
use Rattle.desk_views.proofs.Answering.{none_there, numbers_are, one_there, page_counted, numbers_few, never_fails, told, id_found}
use Rattle.std.proofs.Common.{rules}
use Rattle.desk_store.proofs.CallsInTurn.{stays_end, stays_then}
use Rattle.desk_views.proofs.actions.show_target_actions.Goals as goal

pub returns-in_err-content-clause-stays : goal.returns-in_err-content-clause-stays
returns-in_err-content-clause-stays g c =
    stays_end (stays_then c.in_ok-read_target.ensures.stays _ (stays_then c.in_ok-numbers.ensures.stays _ c.in_err-content.ensures.stays)) _
    c.from_residual-in_err-content.ensures.1

pub returns-in_err-content-clause-fails : goal.returns-in_err-content-clause-fails
returns-in_err-content-clause-fails g c =
    search (c.in_ok-read_target.ensures.fails, c.in_ok-numbers.ensures.fails, c.in_err-content.ensures.fails, c.from_residual-in_err-content.ensures.1, rules)

pub returns-then-is_none-clause-shows : goal.returns-then-is_none-clause-shows
returns-then-is_none-clause-shows g c =
    finds_as c.in_ok-read_target.ensures.reads
    (λ r is of. none_there stored_target (target_of r c.args.id) (λ x. ActionsShown (page_of c.args.page (actions_of_target r x.id)))
    (sym (ap is_some is) ∙ c.is_none.ensures ∙ ap not c.if-is_none.true))

pub returns-clause-shows : goal.returns-clause-shows
returns-clause-shows g c =
    finds_as
    (both_found (both_found c.in_ok-read_target.ensures.reads (ledger_found _ c.in_ok-numbers.ensures.reads)) c.in_ok-content.ensures.reads)
    (λ r is of. one_there stored_target (target_of r c.args.id) (λ x. ActionsShown (page_of c.args.page (actions_of_target r x.id))) _
    (sym (ap is_some is.0.0) ∙ c.is_none.ensures ∙ ap not c.if-is_none.false)
    (λ x there.
    let same = ap (actions_of_target r) (sym (id_found c.args.id x r.targets there)) in
    let are = is.0.1 ∙ numbers_are r c.args.id in
    ap ActionsShown (page_counted c.args.page c.in_ok-numbers.numbers.items (actions_of_target r x.id) c.in_ok-content.content.items c.in_ok-total.total
    (are ∙ ap (map (λ (a : ShownAction). a.number)) same)
    (is.1 of (c.deref-2.ensures.value ∙ are) ∙ ap (λ l. take c.args.page.limit (drop c.args.page.offset l)) same)
    (c.in_ok-total.ensures.0 ∙ ap length c.deref.ensures.value))))

pub returns-in_err-total-clause-fails : goal.returns-in_err-total-clause-fails
returns-in_err-total-clause-fails g c =
    never_fails (λ l it. it) (both_found c.in_ok-read_target.ensures.reads (ledger_found _ c.in_ok-numbers.ensures.reads)) _ (told _ c.in_err-total.ensures)
    (λ r is of _ readable many. numbers_few r of (λ it. same_bytes (actor_of r.rollouts it.0) c.args.id) c.in_ok-numbers.numbers.items is.1
    (omega (arith, many, ap length c.deref.ensures.value))) _ c.from_residual-in_err-total.ensures.1
