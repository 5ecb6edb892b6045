use Rattle.target_filter.proofs.Common.{tree_of}
use Rattle.target_filter.specs.Names.{names_names}
use Rattle.target_filter.proofs.Meanings.{same_text, any_tree, computed_tree}
use Rattle.target_filter.proofs.filter_text.Filter.names_names.Goals as goal

pub returns-clause-meaning : goal.returns-clause-meaning
returns-clause-meaning c = λ tree f. any_tree c.args.self.now (tree_of c.self.inside.tree) tree names_names c.names_names.result
    (same_text _ _ _ c.self.view_is c.self.invariant) c.names_names.ensures f

pub returns-clause-computed : goal.returns-clause-computed
returns-clause-computed c = computed_tree c.args.self.now (tree_of c.self.inside.tree) names_names c.names_names.result
    (same_text _ _ _ c.self.view_is c.self.invariant) c.names_names.ensures
