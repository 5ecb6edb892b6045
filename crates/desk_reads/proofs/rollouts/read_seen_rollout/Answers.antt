use Rattle.desk_reads.proofs.Common.{arith, both_found, finds_as, ledger_found}
use Rattle.std.proofs.Common.{rules}
use Rattle.desk_store.proofs.CallsInTurn.{stays_end, stays_then}
use Rattle.desk_reads.proofs.rollouts.read_seen_rollout.Goals as goal

pub returns-in_err-seen-clause-stays : goal.returns-in_err-seen-clause-stays
returns-in_err-seen-clause-stays g c =
    stays_end (stays_then c.in_ok-stored.ensures.stays _ c.in_err-seen.ensures.stays) _ c.from_residual-in_err-seen.ensures.1

pub returns-clause-stays : goal.returns-clause-stays
returns-clause-stays g c = let it = stays_then c.in_ok-stored.ensures.stays _ c.in_ok-seen.ensures.stays in grind arith

pub returns-in-None-clause-reads : goal.returns-in-None-clause-reads
returns-in-None-clause-reads g c = finds_as (rw (c.in-None.is, c.get.ensures.value) at (ledger_found _ c.in_ok-stored.ensures.reads))
    (λ r is of. grind arith)

pub returns-clause-reads : goal.returns-clause-reads
returns-clause-reads g c =
    finds_as (both_found (rw (c.in-Some.is, c.get.ensures.value) at (ledger_found _ c.in_ok-stored.ensures.reads)) c.in_ok-seen.ensures.reads)
    (λ r is of. grind arith)

pub returns-clause-fails : goal.returns-clause-fails
returns-clause-fails g c = search (c.in_ok-stored.ensures.fails, c.in_ok-seen.ensures.fails, rules)
