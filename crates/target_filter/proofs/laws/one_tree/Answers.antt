use Rattle.target_filter.proofs.ParsedTrees.{one_tree}
use Rattle.target_filter.proofs.laws.one_tree.Goals as goal

pub returns : goal.returns
returns c = λ text t u h k. one_tree text t u h k
