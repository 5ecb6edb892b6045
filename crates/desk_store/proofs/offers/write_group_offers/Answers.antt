use Rattle.desk_store.proofs.Answering.{arith, knows_put_group_offers, offers_group, writes}
use Rattle.desk_store.proofs.offers.write_group_offers.Goals as goal

pub returns-clause-writes : goal.returns-clause-writes
returns-clause-writes g c = writes knows_put_group_offers (offers_group c.args.number c.args.bounds _ _ _) c.run.ensures.runs (grind arith)
