use Rattle.desk_store.proofs.Answering.{HoldsLedger, ask_frames, ask_is_told, asked_in_ledgers, asked_in_readings, in_ledgers, rules}
use Rattle.desk_store.proofs.statements.ask.Goals as goal

pub returns-clause-stays : goal.returns-clause-stays
returns-clause-stays g c = search (rules, ask_frames HoldsLedger _ _ _ _ (in_ledgers c.requires.knows) c.ask.result c.ask.ensures.asks)

pub returns-clause-fails : goal.returns-clause-fails
returns-clause-fails g c = ask_is_told (asked_in_ledgers c.requires) _ c.ask.ensures.asks

pub returns-clause-blames : goal.returns-clause-blames
returns-clause-blames g c = ask_is_told (asked_in_readings c.requires) _ c.ask.ensures.asks
