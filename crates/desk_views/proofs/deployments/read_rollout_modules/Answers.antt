use Rattle.desk_views.proofs.DeviceViews.{set_named}
use Rattle.desk_views.proofs.Common.{arith, option_map}
use Rattle.desk_views.proofs.Answering.{finds_as, found_then, ledger_found}
use Rattle.std.proofs.Common.{rules}
use Rattle.desk_views.proofs.deployments.read_rollout_modules.Goals as goal

pub returns-in-Some-clause-stays : goal.returns-in-Some-clause-stays
returns-in-Some-clause-stays g c = search (c.in_ok-found.ensures.stays, c.read_set_modules.ensures.stays, rules)

pub returns-in-Some-clause-keeps : goal.returns-in-Some-clause-keeps
returns-in-Some-clause-keeps g c = search (c.in_ok-found.ensures.keeps, c.read_set_modules.ensures.keeps, rules)

pub returns-in-Some-clause-fails : goal.returns-in-Some-clause-fails
returns-in-Some-clause-fails g c = search (c.in_ok-found.ensures.fails, c.read_set_modules.ensures.fails, rules)

pub returns-in-Some-clause-reads : goal.returns-in-Some-clause-reads
returns-in-Some-clause-reads g c = found_then (ledger_found _ (rw c.get.ensures.value at c.in_ok-found.ensures.reads)) _ c.read_set_modules.ensures.reads
    (λ r y is got. grind (arith, set_named, option_map, rw c.in-Some.is at c.set_of.ensures))

pub returns-clause-reads : goal.returns-clause-reads
returns-clause-reads g c =
    finds_as (ledger_found _ (rw c.get.ensures.value at c.in_ok-found.ensures.reads))
    (λ r is. grind (arith, set_named, option_map, rw c.in-None.is at c.set_of.ensures, c.new.ensures.items))
