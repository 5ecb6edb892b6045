use Rattle.desk_views.proofs.FailingGroups.{group_there}
use Rattle.desk_views.proofs.Answering.{arith, ap, ◌∙◌, both_found, finds_as, targets_of, item_numbered, members_in, page_of, targets_shown, TargetsShown}
use Rattle.desk_views.proofs.Answering.{group_numbered, ledger_found, groups_are, group_small, never_fails, told, one_group, members_paged}
use Rattle.desk_store.proofs.CallsInTurn.{stays_end, stays_then}
use Rattle.desk_views.proofs.groups.show_group_targets.Goals as goal

pub returns-in_err-content-clause-stays : goal.returns-in_err-content-clause-stays
returns-in_err-content-clause-stays g c =
    stays_end (stays_then c.in_ok-found.ensures.stays _ (stays_then c.in_ok-members.ensures.stays _ c.in_err-content.ensures.stays)) _
    c.from_residual-in_err-content.ensures.1

pub returns-in_err-content-clause-fails : goal.returns-in_err-content-clause-fails
returns-in_err-content-clause-fails g c =
    grind (arith, c.in_ok-found.ensures.fails, c.in_ok-members.ensures.fails, c.in_err-content.ensures.fails, c.from_residual-in_err-content.ensures.1)

pub returns-in-None-clause-shows : goal.returns-in-None-clause-shows
returns-in-None-clause-shows g c = finds_as (rw c.in-None.is at (ledger_found _ c.in_ok-found.ensures.reads)) (λ r is of. grind (arith, groups_are))

pub returns-clause-shows : goal.returns-clause-shows
returns-clause-shows g c =
    finds_as
    (both_found (both_found (rw c.in-Some.is at (ledger_found _ c.in_ok-found.ensures.reads)) (ledger_found _ c.in_ok-members.ensures.reads))
    c.in_ok-content.ensures.reads)
    (λ r is of. one_group (λ x f. TargetsShown (page_of c.args.page (targets_shown r (targets_of r (members_in f x.members)))))
    (item_numbered r.rollouts c.args.number) c.args.group c.in-Some.found _
    (is.0.0 ∙ ap (group_numbered c.args.group) (groups_are r of c.args.number))
    (λ x there in_it. ap TargetsShown (members_paged r of c.args.number c.args.group c.args.page c.members_on.result c.in-Some.found c.in_ok-total.total
    c.in_ok-members.members.items c.in_ok-content.content.items c.in_ok-total.ensures
    c.members_on.ensures.limit c.members_on.ensures.offset is.0.1 (rw c.deref.ensures.value at is.1) x there in_it)))

pub returns-in_err-total-clause-fails : goal.returns-in_err-total-clause-fails
returns-in_err-total-clause-fails g c =
    never_fails (λ l it. it) (rw c.in-Some.is at (ledger_found _ c.in_ok-found.ensures.reads)) _ (told _ c.in_err-total.ensures)
    (λ r is of _ readable large. group_small r of c.args.number c.in-Some.found (group_there r of c.args.number c.args.group c.in-Some.found is) large) _
    c.from_residual-in_err-total.ensures.1
