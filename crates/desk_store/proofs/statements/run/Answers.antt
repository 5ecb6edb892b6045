use Rattle.desk_store.proofs.Answering.{HoldsLedger, rules, run_frames}
use Rattle.desk_store.proofs.statements.run.Goals as goal

pub returns-clause-stays : goal.returns-clause-stays
returns-clause-stays g c = search (rules, run_frames HoldsLedger _ _ _ _ c.requires c.run.result c.run.ensures.runs)
