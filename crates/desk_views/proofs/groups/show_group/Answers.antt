use Rattle.desk_views.proofs.FailingGroups.{numbered_has}
use Rattle.desk_views.proofs.Answering.{arith, Some, ap, subst, ◌∙◌, both_found, finds_as, BothOrNone, item_numbered, group_shown, GroupShown, group_numbered}
use Rattle.desk_views.proofs.Answering.{ledger_found, IsSeenOf, groups_are, fails_when, one_group}
use Rattle.desk_views.proofs.groups.show_group.Goals as goal

pub returns-in-None-clause-shows : goal.returns-in-None-clause-shows
returns-in-None-clause-shows g c = finds_as (rw c.in-None.is at c.in_ok-seen.ensures.reads) (λ r is of. grind arith)

pub returns-in-None-2-clause-shows : goal.returns-in-None-2-clause-shows
returns-in-None-2-clause-shows g c = finds_as (both_found c.in_ok-seen.ensures.reads (rw c.in-None-2.is at (ledger_found _ c.in_ok-found.ensures.reads)))
    (λ r is of. grind (arith, groups_are))

pub returns-clause-shows : goal.returns-clause-shows
returns-clause-shows g c =
    finds_as
    (both_found (both_found (rw c.in-Some.is at c.in_ok-seen.ensures.reads) (rw c.in-Some-2.is at (ledger_found _ c.in_ok-found.ensures.reads)))
    c.in_ok-shown.ensures.reads)
    (λ r is of. one_group (λ x f. GroupShown (group_shown x f)) (item_numbered r.rollouts c.args.number) c.args.group c.in-Some-2.found _
    (is.0.1 ∙ ap (group_numbered c.args.group) (groups_are r of c.args.number))
    (λ x there in_it. ap GroupShown (is.1 x there (subst (BothOrNone IsSeenOf (Some c.in-Some.seen)) there (is.0.0 of)))))

pub returns-in_err-shown-clause-fails : goal.returns-in_err-shown-clause-fails
returns-in_err-shown-clause-fails g c =
    fails_when (λ l it. it) (both_found c.in_ok-seen.ensures.reads (rw c.in-Some-2.is at (ledger_found _ c.in_ok-found.ensures.reads)))
    c.in_err-shown.ensures.reads.wears _ c.in_err-shown.ensures.fails (λ r is of _. grind (arith, groups_are, numbered_has)) _
    c.from_residual-in_err-shown.ensures.1
