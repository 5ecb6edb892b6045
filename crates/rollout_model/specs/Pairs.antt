-- The rule of an attribute, when two are the same, and how many a device gives.
use Rattle.std.specs.Prelude.{Bool, ◌&&◌, ℕ, List, [], ◌∷◌, length, nat_eq, nat_le}
use Rattle.std.specs.Cmp.Lexicographic.{pointwise}
use Rattle.rollout_model.specs.Limits.{limits}
use Rattle.rollout_model.specs.Rules.{is_value, is_word}
use Rattle.rollout_model.specs.declared.target.Attribute.{Attribute}

abbrev pub is_attribute : Attribute → Bool
is_attribute a = is_word a.key && is_value a.value

-- the byte strings of an attribute
abbrev pub pair_of : Attribute → List (List ℕ)
pair_of a = a.key ∷ a.value ∷ []

abbrev pub is_same_attribute : Attribute → Attribute → Bool
is_same_attribute a b = pointwise (pointwise nat_eq) (pair_of a) (pair_of b)

-- the attributes that a device gives at once
abbrev pub is_config_data : List Attribute → Bool
is_config_data pairs = nat_le (length pairs) limits.attributes
