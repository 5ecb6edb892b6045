use Rattle.desk_store.proofs.Answering.{HoldsLedger, codes, errors_as_store, gives_up, gives_up_as_store, rollback_is}
use Rattle.desk_store.proofs.change.OpenChange.give_up.Goals as goal

pub returns-clause-gives_up : goal.returns-clause-gives_up
returns-clause-gives_up g c = rw c.finished.ensures
    (gives_up_as_store _ _ c.roll_back.result (gives_up HoldsLedger (codes "ROLLBACK") _ _ (rollback_is _) c.roll_back.result c.roll_back.ensures.runs))

pub returns-clause-failures : goal.returns-clause-failures
returns-clause-failures g c = rw c.finished.ensures (rw (errors_as_store c.roll_back.result) c.roll_back.ensures.failures)
