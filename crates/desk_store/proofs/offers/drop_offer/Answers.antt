use Rattle.desk_store.proofs.Answering.{arith, drop_offer_is, drops, drops_offer, writes}
use Rattle.desk_store.proofs.offers.drop_offer.Goals as goal

pub returns-clause-writes : goal.returns-clause-writes
returns-clause-writes g c = writes (drops drop_offer_is) (drops_offer c.args.id.now c.args.action _ _ _) c.run.ensures.runs (grind arith)
