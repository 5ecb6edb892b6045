-- What a filter says of a target.
use Rattle.std.specs.Prelude.{ℕ, List, Bool, not, ◌&&◌, ◌||◌, nat_eq}
use Rattle.std.specs.List.{list_any}
use Rattle.std.specs.Cmp.Lexicographic.{pointwise}
use Rattle.rollout_model.specs.declared.target.Attribute as model
use Rattle.rollout_model.specs.declared.target.Target.{Target}
use Rattle.target_filter.specs.Patterns.{matches}
use Rattle.target_filter.specs.Grammar.{Field, Id, Name, Tag, Attribute, Operator, Equal, NotEqual, Value, Bare, Quoted, Tree, Or, And, Group, Comparison}

abbrev pub pattern_of : Value → List ℕ
pattern_of (Bare pattern) = pattern
pattern_of (Quoted pattern) = pattern

-- the attribute has the key, and its value matches
abbrev pub attribute_matches : List ℕ → List ℕ → model.Attribute → Bool
attribute_matches key pattern attribute = pointwise nat_eq attribute.key key && matches pattern attribute.value

-- some tag matches; the key is there and its value matches
abbrev pub field_matches : Field → List ℕ → Target → Bool
field_matches Id pattern target = matches pattern target.id
field_matches Name pattern target = matches pattern target.name
field_matches Tag pattern target = list_any (matches pattern) target.tags
field_matches (Attribute key) pattern target = list_any (attribute_matches key pattern) target.attributes

-- `!=` is the negation of `==`
abbrev pub compared : Operator → Bool → Bool
compared Equal matched = matched
compared NotEqual matched = not matched

abbrev pub holds : Tree → Target → Bool
holds (Or left right) target = holds left target || holds right target
holds (And left right) target = holds left target && holds right target
holds (Group tree) target = holds tree target
holds (Comparison field operator value) target = compared operator (field_matches field (pattern_of value) target)
