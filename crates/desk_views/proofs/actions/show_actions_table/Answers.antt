use Rattle.desk_views.proofs.Answering.{arith, nat_eq, sym, ap, ◌∙◌, not, map, length, is_some, both_found, finds_as, stored_rollout}
use Rattle.desk_views.proofs.Answering.{item_numbered, actions_of_rollout, ActionsTableShown, ledger_found, shown_among, groups_are, all_listed, none_there}
use Rattle.desk_views.proofs.Answering.{of_rollout_is, one_there, listed_few, never_fails, told}
use Rattle.std.proofs.Common.{rules}
use Rattle.desk_store.proofs.CallsInTurn.{stays_end, stays_then}
use Rattle.desk_views.proofs.actions.show_actions_table.Goals as goal

pub returns-in_err-all-clause-stays : goal.returns-in_err-all-clause-stays
returns-in_err-all-clause-stays g c =
    stays_end (stays_then c.in_ok-read_rollout.ensures.stays _ c.in_err-all.ensures.stays) _ c.from_residual-in_err-all.ensures.1

pub returns-in_err-all-clause-fails : goal.returns-in_err-all-clause-fails
returns-in_err-all-clause-fails g c =
    search (c.in_ok-read_rollout.ensures.fails, c.in_err-all.ensures.fails, c.from_residual-in_err-all.ensures.1, rules)

pub returns-in_err-count_of-clause-stays : goal.returns-in_err-count_of-clause-stays
returns-in_err-count_of-clause-stays g c = search (
  c.in_ok-read_rollout.ensures.stays,
  c.in_ok-all.ensures.stays,
  c.in_err-count_of.ensures,
  c.from_residual-in_err-count_of.ensures.1,
  rules,
)

pub returns-in_err-groups-clause-stays : goal.returns-in_err-groups-clause-stays
returns-in_err-groups-clause-stays g c =
    let it = stays_then c.in_ok-read_rollout.ensures.stays _ (stays_then c.in_ok-all.ensures.stays _ c.in_err-groups.ensures.stays) in grind arith

pub returns-in_err-groups-clause-fails : goal.returns-in_err-groups-clause-fails
returns-in_err-groups-clause-fails g c = search (
  c.in_ok-read_rollout.ensures.fails,
  c.in_ok-all.ensures.fails,
  c.in_err-groups.ensures.fails,
  c.from_residual-in_err-groups.ensures.1,
  rules,
)

pub returns-in_err-actions-clause-stays : goal.returns-in_err-actions-clause-stays
returns-in_err-actions-clause-stays g c =
    let it = stays_then c.in_ok-read_rollout.ensures.stays _ (stays_then c.in_ok-all.ensures.stays _ c.in_ok-groups.ensures.stays) in
    search (it, c.in_err-actions.ensures.err, c.from_residual-in_err-actions.ensures.1, rules)

pub returns-then-is_none-clause-shows : goal.returns-then-is_none-clause-shows
returns-then-is_none-clause-shows g c =
    finds_as (ledger_found _ (rw c.get.ensures.value at c.in_ok-read_rollout.ensures.reads))
    (λ r is of. none_there stored_rollout (item_numbered r.rollouts c.args.number) (λ _. ActionsTableShown (actions_of_rollout r c.args.number))
    (sym (ap is_some is) ∙ c.is_none.ensures ∙ ap not c.if-is_none.true))

pub returns-clause-shows : goal.returns-clause-shows
returns-clause-shows g c =
    finds_as
    (both_found (both_found (ledger_found _ (rw c.get.ensures.value at c.in_ok-read_rollout.ensures.reads)) (ledger_found _ c.in_ok-all.ensures.reads))
    (ledger_found _ c.in_ok-groups.ensures.reads))
    (λ r is of. one_there stored_rollout (item_numbered r.rollouts c.args.number) (λ _. ActionsTableShown (actions_of_rollout r c.args.number)) _
    (sym (ap is_some is.0.0) ∙ c.is_none.ensures ∙ ap not c.if-is_none.false)
    (λ x there.
    let all = all_listed 4294967295 c.in_ok-count_of.field-0 _ c.in_ok-all.all.items is.0.1 (c.in_ok-count_of.ensures.0 ∙ ap length c.deref.ensures.value)
    c.in_ok-count_of.ensures.1 in
    let shown = rw (c.deref-2.ensures.value, c.deref-3.ensures.value) at c.in_ok-actions.ensures.ok in
    ap ActionsTableShown (shown ∙ ap (map (shown_among c.in_ok-groups.groups.items)) all
    ∙ of_rollout_is r c.args.number c.in_ok-groups.groups.items (is.1 ∙ groups_are r of c.args.number))))

pub returns-in_err-count_of-clause-fails : goal.returns-in_err-count_of-clause-fails
returns-in_err-count_of-clause-fails g c =
    never_fails (λ l it. it) (both_found (ledger_found _ (rw c.get.ensures.value at c.in_ok-read_rollout.ensures.reads))
    (ledger_found _ c.in_ok-all.ensures.reads)) _
    (told _ c.in_err-count_of.ensures)
    (λ r is of _ readable many. listed_few r of (λ it. nat_eq it.0.rollout c.args.number) 4294967295 0 c.in_ok-all.all.items is.1
    (omega (arith, many, ap length c.deref.ensures.value))) _ c.from_residual-in_err-count_of.ensures.1
