use Rattle.desk_views.proofs.Answering.{Err, refl, sym, ap, ◌∙◌, both_found, finds_as, ledger_found, Broken, never_fails}
use Rattle.desk_views.proofs.Common.{ending_of, has_begun}
use Rattle.desk_views.proofs.EndedActions.{not_waiting}
use Rattle.desk_views.proofs.target_words.read_last_ending.Goals as goal

pub returns-in_default-clause-reads : goal.returns-in_default-clause-reads
returns-in_default-clause-reads g c =
    finds_as (ledger_found _ (rw c.in_default.is at c.in_ok-listed.ensures.reads)) (λ r is. (ap (has_begun r) (sym is), ap ending_of is))

pub returns-clause-reads : goal.returns-clause-reads
returns-clause-reads g c =
    finds_as (both_found (ledger_found _ (rw c.in-Some.is at c.in_ok-listed.ensures.reads)) (rw c.if-not-branch.false at c.in_ok-read_is_begun.ensures.reads))
    (λ r is. (ap (has_begun r) (sym is.0) ∙ sym is.1, ap ending_of is.0))

pub returns-then-not-branch-clause-fails : goal.returns-then-not-branch-clause-fails
returns-then-not-branch-clause-fails g c =
    never_fails (λ l it. it)
    (both_found (ledger_found _ (rw c.in-Some.is at c.in_ok-listed.ensures.reads)) (rw c.if-not-branch.true at c.in_ok-read_is_begun.ensures.reads)) Broken
    (tt {0}) (λ r is of _ readable _. not_waiting r c.args.id.now of c.in-Some.listed is.0 is.1) (Err Broken) refl
