use Rattle.desk_store.proofs.Answering.{HoldsLedger, asked_in_ledgers, asked_in_readings, first_frames, first_is_told, in_ledgers, rules}
use Rattle.desk_store.proofs.statements.first.Goals as goal

pub returns-clause-stays : goal.returns-clause-stays
returns-clause-stays g c = search (rules, first_frames HoldsLedger _ _ _ _ (in_ledgers c.requires.knows) c.first.result c.first.ensures.takes)

pub returns-clause-fails : goal.returns-clause-fails
returns-clause-fails g c = first_is_told (asked_in_ledgers c.requires) _ c.first.ensures.takes

pub returns-clause-never : goal.returns-clause-never
returns-clause-never g c = first_is_told (asked_in_ledgers c.requires) _ c.first.ensures.takes

pub returns-clause-blames : goal.returns-clause-blames
returns-clause-blames g c = first_is_told (asked_in_readings c.requires) _ c.first.ensures.takes
