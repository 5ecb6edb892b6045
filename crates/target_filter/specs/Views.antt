-- A tree without where it lies in memory.
use Rattle.target_filter.specs.Grammar as grammar
use Rattle.target_filter.specs.declared.tree.Field.{Field}
use Rattle.target_filter.specs.declared.tree.Field.TheVariants as field
use Rattle.target_filter.specs.declared.tree.Operator.{Operator}
use Rattle.target_filter.specs.declared.tree.Operator.TheVariants as operator
use Rattle.target_filter.specs.declared.tree.Value.{Value}
use Rattle.target_filter.specs.declared.tree.Value.TheVariants as value
use Rattle.target_filter.specs.declared.tree.Tree.{Tree, Or', And', Group', Comparison}

abbrev pub field_of : Field → grammar.Field
field_of field.Id = grammar.Id
field_of field.Name = grammar.Name
field_of field.Tag = grammar.Tag
field_of (field.Attribute key) = grammar.Attribute key.items

abbrev pub operator_of : Operator → grammar.Operator
operator_of operator.Equal = grammar.Equal
operator_of operator.NotEqual = grammar.NotEqual

abbrev pub value_of : Value → grammar.Value
value_of (value.Bare pattern) = grammar.Bare pattern.items
value_of (value.Quoted pattern) = grammar.Quoted pattern.items

abbrev pub tree_of : Tree → grammar.Tree
tree_of (Or' p l q r) = grammar.Or (tree_of l) (tree_of r)
tree_of (And' p l q r) = grammar.And (tree_of l) (tree_of r)
tree_of (Group' p t) = grammar.Group (tree_of t)
tree_of (Comparison f o v) = grammar.Comparison (field_of f) (operator_of o) (value_of v)
