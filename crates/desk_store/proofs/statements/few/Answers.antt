use Rattle.desk_store.proofs.Answering.{HoldsLedger, asked_in_ledgers, asked_in_readings, few_frames, few_is_told, in_ledgers, rules}
use Rattle.desk_store.proofs.statements.few.Goals as goal

pub returns-clause-stays : goal.returns-clause-stays
returns-clause-stays g c = search (rules, few_frames HoldsLedger _ _ _ _ (in_ledgers c.requires.knows) c.args.most c.few.result c.few.ensures.asks)

pub returns-clause-fails : goal.returns-clause-fails
returns-clause-fails g c = few_is_told (asked_in_ledgers c.requires) _ _ c.few.ensures.asks

pub returns-clause-blames : goal.returns-clause-blames
returns-clause-blames g c = few_is_told (asked_in_readings c.requires) _ _ c.few.ensures.asks
