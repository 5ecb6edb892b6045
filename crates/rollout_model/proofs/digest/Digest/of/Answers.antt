use Rattle.rollout_model.proofs.RuleLemmas.{bytes_are_digest}
use Rattle.rollout_model.proofs.digest.Digest.of.Goals as goal

pub invariant_of-result : goal.invariant_of-result
invariant_of-result c = rw c.copy_from_slice.ensures.after (bytes_are_digest c.args.bytes.now c.requires c.type_inv.bytes)
