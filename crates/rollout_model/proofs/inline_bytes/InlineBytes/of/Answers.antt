use Rattle.rollout_model.proofs.PaddedLemmas.{length_padded, padded}
use Rattle.rollout_model.proofs.inline_bytes.InlineBytes.of.Goals as goal

pub invariant_of-result : goal.invariant_of-result
invariant_of-result g c =
    rw c.copy_from_slice.ensures.after (c.requires, length_padded g.row.N c.args.bytes.now c.requires, padded g.row.N c.args.bytes.now c.requires)
