use Rattle.mgmt_objects.proofs.Common.{inr, refl}
use Rattle.std.proofs.lemmas.Bool.{false≢true}
use Rattle.mgmt_objects.proofs.BodyLemmas.{body_is, body_is_none}
use Rattle.mgmt_objects.proofs.body.read_value.Goals as goal

pub returns-in-Ok : goal.returns-in-Ok
returns-in-Ok c = body_is c.args.bytes.now _ c.in-Ok.ensures.ok.0 c.in-Ok.ensures.ok.1

pub returns-else-is_memory : goal.returns-else-is_memory
returns-else-is_memory c =
    inr (refl, body_is_none c.args.bytes.now (c.in-Err.ensures.err (λ m. false≢true (c.if-is_memory.ensures.1 m))))
