use Rattle.desk_store.proofs.Answering.{arith, changes, set_offer_is, sets_offer, writes}
use Rattle.desk_store.proofs.offers.change_offer.Goals as goal

pub returns-clause-writes : goal.returns-clause-writes
returns-clause-writes g c = writes (changes set_offer_is) (sets_offer c.args.id.now c.args.action c.args.offer _ _ _) c.run.ensures.runs (grind arith)
