use Rattle.desk_views.proofs.FailingViews.{never_fails}
use Rattle.desk_views.proofs.Answering.{Err, refl, Broken, found_if, ledger_found, said_of, group_ruled, group_small, never_answers, told}
use Rattle.desk_views.proofs.groups.read_shown_group.Goals as goal

pub returns-in-Some-clause-reads : goal.returns-in-Some-clause-reads
returns-in-Some-clause-reads g c =
    found_if (rw c.in-Some.is at (ledger_found _ c.in_ok-rule.ensures.reads)) _ c.shown_in.ensures.ok
    (λ r shown is so x there seen. so x seen (said_of r c.args.number c.args.group.now.number x c.in-Some.rule there is))

pub returns-in-Some-clause-fails : goal.returns-in-Some-clause-fails
returns-in-Some-clause-fails g c =
    never_answers c.in_ok-rule.ensures.fails c.shown_in.result c.shown_in.ensures.err
    (λ fault why. never_fails (λ l it. it.of_list) (ledger_found _ c.in_ok-rule.ensures.reads) fault (told fault why)
    (λ r found of it readable large. group_small r of c.args.number c.args.group.now it.wanted large) c.shown_in.result)

pub returns-in-None-clause-fails : goal.returns-in-None-clause-fails
returns-in-None-clause-fails g c =
    never_fails (λ l it. it.of_list) (rw c.in-None.is at (ledger_found _ c.in_ok-rule.ensures.reads)) Broken (tt {0})
    (λ r none of it readable _. group_ruled r of c.args.number c.args.group.now it.wanted none) (Err Broken) refl
