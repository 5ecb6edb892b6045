use Rattle.desk_store.proofs.Answering.{arith, first_at, never_breaks_first, next_fails, next_offer_read}
use Rattle.desk_store.proofs.offers.read_next_offer.Goals as goal

pub returns-in_err-row-clause-fails : goal.returns-in_err-row-clause-fails
returns-in_err-row-clause-fails g c = never_breaks_first c.in_err-row.ensures.never _ c.from_residual.ensures.1

pub returns-clause-reads : goal.returns-clause-reads
returns-clause-reads g c = next_offer_read c.args.id.now c.args.from (first_at c.in_ok-row.ensures.takes (grind arith)) _ c.read_optional.ensures.ok

pub returns-clause-fails : goal.returns-clause-fails
returns-clause-fails g c = next_fails c.args.id.now c.args.from (first_at c.in_ok-row.ensures.takes (grind arith)) _ c.read_optional.ensures.err
