use Rattle.rollout_model.proofs.RuleLemmas.{contents_are_few}
use Rattle.rollout_model.proofs.contents.are_contents.Goals as goal

pub returns : goal.returns
returns c = contents_are_few c.args.bytes.now c.type_inv.bytes
