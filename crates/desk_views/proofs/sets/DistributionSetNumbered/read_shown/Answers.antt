use Rattle.desk_views.proofs.ListRules.{keeps_list}
use Rattle.desk_views.proofs.Answering.{arith, both_found, finds_as, option_map, never_fails, told}
use Rattle.desk_views.proofs.sets.DistributionSetNumbered.read_shown.Goals as goal

pub returns-in-None-clause-reads : goal.returns-in-None-clause-reads
returns-in-None-clause-reads g c = finds_as (rw c.in-None.is at c.in_ok-called.ensures.reads) (λ r is _. grind (arith, option_map))

pub returns-clause-reads : goal.returns-clause-reads
returns-clause-reads g c =
    rw c.labelled-label.ensures
    (finds_as (both_found (rw c.in-Some.is at c.in_ok-called.ensures.reads) c.in_ok-numbers.ensures.reads)
    (λ r is _. grind (arith, option_map, c.in_ok-modules.ensures)))

pub returns-in_err-modules-clause-fails : goal.returns-in_err-modules-clause-fails
returns-in_err-modules-clause-fails g c = never_fails (λ l it. it) (both_found (rw c.in-Some.is at c.in_ok-called.ensures.reads) c.in_ok-numbers.ensures.reads)
    _ (told _ c.in_err-modules.ensures) (λ r is of _ readable broken. grind (arith, option_map, keeps_list r of c.args.number.now)) _
    c.from_residual-in_err-modules.ensures.1
