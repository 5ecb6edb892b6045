use Rattle.desk_views.proofs.Common.{arith, option_map}
use Rattle.desk_views.proofs.ActionViews.{stored_at}
use Rattle.desk_views.proofs.Answering.{finds_as, found_then, ledger_found}
use Rattle.desk_views.proofs.deployments.read_action_modules.Goals as goal

pub returns-in-Some-clause-reads : goal.returns-in-Some-clause-reads
returns-in-Some-clause-reads g c = found_then (ledger_found _ (rw c.in-Some.is at c.in_ok-action.ensures.reads)) _ c.read_rollout_modules.ensures.reads
    (λ r y is got. grind (arith, option_map, stored_at))

pub returns-in-None-clause-reads : goal.returns-in-None-clause-reads
returns-in-None-clause-reads g c = finds_as (ledger_found _ (rw c.in-None.is at c.in_ok-action.ensures.reads))
    (λ r is. grind (arith, option_map, stored_at, c.new.ensures.items))
