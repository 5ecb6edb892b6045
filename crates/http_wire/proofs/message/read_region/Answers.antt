use Rattle.http_wire.proofs.Common.{sym, ap, ◌∙◌, arith, false≢true, body_length}
use Rattle.http_wire.proofs.HeadLemmas.{spelled_pairs}
use Rattle.http_wire.proofs.MessageLemmas.{body_fault}
use Rattle.http_wire.proofs.message.read_region.Goals as goal

pub returns-in-Err-clause-fault : goal.returns-in-Err-clause-fault
returns-in-Err-clause-fault c =
    body_fault c.args.region.now _ _ _ c.in-Err.fault c.in-Some.ensures.found.head (ap body_length (sym c.fields_of-fields.ensures) ∙ sym c.in-Err.ensures)

pub returns-then-not-ends-clause-fault : goal.returns-then-not-ends-clause-fault
returns-then-not-ends-clause-fault c = (omega arith, λ h s. false≢true (rw (c.line_ends-ends.ensures.strict ∙ spelled_pairs _ h s) at c.if-not-ends.true))
