use Rattle.target_filter.proofs.Profiles.{filter_tree, tree_filter, no_filter, filter_none}
use Rattle.target_filter.proofs.laws.computed_filter.Goals as goal

pub returns-clause-tree : goal.returns-clause-tree
returns-clause-tree c = λ text tree. (λ h. filter_tree text tree h, λ h. tree_filter text tree h)

pub returns-clause-none : goal.returns-clause-none
returns-clause-none c = λ text. (λ h p. no_filter text h p, λ h. filter_none text h)
