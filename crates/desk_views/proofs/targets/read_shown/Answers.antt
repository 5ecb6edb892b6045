use Rattle.desk_views.proofs.Common.{arith, Target, option_map}
use Rattle.desk_views.proofs.TargetViews.{id_found}
use Rattle.desk_views.proofs.Answering.{both_found, finds_as}
use Rattle.std.proofs.Common.{rules}
use Rattle.desk_views.proofs.targets.read_shown.Goals as goal

pub returns-clause-fails : goal.returns-clause-fails
returns-clause-fails g c = search (c.in_ok-stored.ensures.fails, c.in_ok-target.ensures.fails, c.in_ok-shown.ensures.fails, rules)

pub returns-in-None-clause-reads : goal.returns-in-None-clause-reads
returns-in-None-clause-reads g c = finds_as (rw c.in-None.is at c.in_ok-stored.ensures.reads) (λ r is. grind arith)

pub returns-clause-reads : goal.returns-clause-reads
returns-clause-reads g c =
    finds_as (both_found (both_found (rw c.in-Some.is at c.in_ok-stored.ensures.reads) (rw c.called-listed.ensures at c.in_ok-target.ensures.reads))
    c.in_ok-shown.ensures.reads) (λ r is. grind (arith, option_map, λ (t : Target). id_found c.args.id t r.targets))
