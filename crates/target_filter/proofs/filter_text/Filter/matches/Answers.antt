use Rattle.target_filter.proofs.Common.{tree_of, holds}
use Rattle.target_filter.proofs.Meanings.{same_text, any_tree, computed_tree}
use Rattle.target_filter.proofs.filter_text.Filter.matches.Goals as goal

pub returns-clause-meaning : goal.returns-clause-meaning
returns-clause-meaning c = λ tree f. any_tree c.args.self.now (tree_of c.self.inside.tree) tree (λ t. holds t c.args.target.now) c.holds.result
    (same_text _ _ _ c.self.view_is c.self.invariant) c.holds.ensures f

pub returns-clause-computed : goal.returns-clause-computed
returns-clause-computed c = computed_tree c.args.self.now (tree_of c.self.inside.tree) (λ t. holds t c.args.target.now) c.holds.result
    (same_text _ _ _ c.self.view_is c.self.invariant) c.holds.ensures
