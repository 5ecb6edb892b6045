use Rattle.target_filter.proofs.Common.{tree_of}
use Rattle.target_filter.specs.Names.{only_tag}
use Rattle.target_filter.proofs.Meanings.{same_text, any_tree, computed_tree}
use Rattle.target_filter.proofs.filter_text.Filter.only_tag.Goals as goal

pub returns-clause-meaning : goal.returns-clause-meaning
returns-clause-meaning c = λ tree f. any_tree c.args.self.now (tree_of c.self.inside.tree) tree only_tag c.only_tag.result.now
    (same_text _ _ _ c.self.view_is c.self.invariant) c.only_tag.ensures f

pub returns-clause-computed : goal.returns-clause-computed
returns-clause-computed c = computed_tree c.args.self.now (tree_of c.self.inside.tree) only_tag c.only_tag.result.now
    (same_text _ _ _ c.self.view_is c.self.invariant) c.only_tag.ensures
