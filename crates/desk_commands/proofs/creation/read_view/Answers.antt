use Rattle.desk_commands.proofs.Answering.{◌∙◌, ap, length, both_found, finds_as, ledger_found, missing, reads_end}
use Rattle.desk_store.proofs.CallsInTurn.{stays_then}
use Rattle.std.proofs.Common.{arith}
use Rattle.desk_commands.proofs.creation.read_view.Goals as goal

pub returns-in_err-approval-clause-fails : goal.returns-in_err-approval-clause-fails
returns-in_err-approval-clause-fails g c =
    reads_end (λ l sees given.
    let named = c.in_ok-same_name.ensures.fails.to l (c.in_ok-last_set.ensures.fails.to l sees) in
    c.in_err-approval.ensures.fails.to l (c.in_ok-count.ensures.fails.to l named) given.readable) c.from_residual-in_err-approval.ensures.1

pub returns-in_err-approval-clause-stays : goal.returns-in_err-approval-clause-stays
returns-in_err-approval-clause-stays g c =
    let it = stays_then c.in_ok-last_set.ensures.stays _ (stays_then c.in_ok-same_name.ensures.stays _
    (stays_then c.in_ok-count.ensures.stays _ c.in_err-approval.ensures.stays)) in
    grind arith

pub returns-clause-reads : goal.returns-clause-reads
returns-clause-reads g c =
    finds_as
    (both_found
    (both_found (both_found c.in_ok-last_set.ensures.reads (ledger_found _ c.in_ok-same_name.ensures.reads)) (ledger_found _ c.in_ok-count.ensures.reads))
    (ledger_found _ c.in_ok-approval.ensures.reads))
    (λ r is chosen. record {
      bad_filter = chosen.bad_filter;
      misses_set = rw c.get.ensures.value (missing r.sets _ _ (rw c.get.ensures.value at c.get.ensures.least) is.0.0.0);
      same_name = is.0.0.1;
      members = c.requires ∙ ap length chosen.members;
      count = is.0.1;
      approval = is.1;
    })
