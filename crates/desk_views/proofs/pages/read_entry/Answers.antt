use Rattle.desk_views.proofs.FailingViews.{never_fails, entry_there, numbered_so}
use Rattle.desk_views.proofs.Answering.{◌≤◌, None, Err, refl, sym, arith, length, finds_as, known, numbered, Broken, same_number, entry_is, numbered_length}
use Rattle.desk_views.proofs.ListRules.{at_list}
use Rattle.desk_views.proofs.pages.read_entry.Goals as goal

pub returns-in-Some-2-clause-reads : goal.returns-in-Some-2-clause-reads
returns-in-Some-2-clause-reads g c = finds_as (rw c.in-Some-2.is at c.in_ok-shown.ensures.reads)
    (λ r is given. grind (arith, entry_is, same_number, c.in-Some.ensures))

pub returns-in_default-clause-fails : goal.returns-in_default-clause-fails
returns-in_default-clause-fails g c =
    never_fails (λ l it. it.of_list) (known {x = tt {0}} {P = λ r u. Unit {0}} (λ r. tt)) Broken (tt {0})
    (λ r is of it readable _. numbered_so c.args.number (length (g.T.Numbered.items r)) c.in_default.ensures it.wanted.0 it.wanted.1
    (at_list (λ r. length (g.T.Numbered.items r) ≤ 1000) g.met.T.Numbered.few r of)) (Err Broken) refl

pub returns-in-None-clause-fails : goal.returns-in-None-clause-fails
returns-in-None-clause-fails g c =
    never_fails (λ l it. it.of_list) (rw c.in-None.is at c.in_ok-shown.ensures.reads) Broken (tt {0})
    (λ r is of it readable _. entry_there (numbered (g.T.Numbered.shown r) 1 (g.T.Numbered.items r)) c.args.number it.wanted.0
    (omega (arith, it.wanted.1, numbered_length (g.T.Numbered.shown r) 1 (g.T.Numbered.items r)))
    (entry_is (g.T.Numbered.shown r) (g.T.Numbered.items r) c.in-Some.number c.args.number None (same_number _ _ (sym c.in-Some.ensures))
    (is (g.met.T.Numbered.known r of)))) (Err Broken) refl
