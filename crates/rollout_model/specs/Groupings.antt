-- How a rollout is cut into groups: evenly, or as each of them is defined.
use Rattle.std.specs.Prelude.{ℕ, Bool, true, false, ◌&&◌, nat_eq, List, [], ◌∷◌, length, Option, Some, None}
use Rattle.std.specs.List.{list_all}
use Rattle.rollout_model.specs.Limits.{limits}
use Rattle.rollout_model.specs.Rules.{is_between, is_group_count, is_percentage}
use Rattle.rollout_model.specs.declared.group_definition.GroupDefinition.{GroupDefinition}

-- how many groups there are, and the definitions of all of them, or of none where the groups are even
pub record Grouping : Type 0 where
  pub count : ℕ
  pub definitions : List GroupDefinition

abbrev pub is_definition : GroupDefinition → Bool
is_definition d = is_percentage d.percentage && (is_percentage d.success && is_percentage d.error)

-- the last one takes all that is left
abbrev pub ends_whole : List GroupDefinition → Bool
ends_whole [] = false
ends_whole (d ∷ []) = nat_eq d.percentage 100
ends_whole (d ∷ e ∷ more) = ends_whole (e ∷ more)

-- the definitions of a rollout's groups
abbrev pub are_definitions : List GroupDefinition → Bool
are_definitions ds = is_between 1 limits.groups (length ds) && (list_all is_definition ds && ends_whole ds)

-- none, or as many as there are groups
abbrev pub define_each : List GroupDefinition → ℕ → Bool
define_each [] count = true
define_each (d ∷ ds) count = are_definitions (d ∷ ds) && nat_eq (length (d ∷ ds)) count

abbrev pub is_grouping : Grouping → Bool
is_grouping g = is_group_count g.count && define_each g.definitions g.count

abbrev pub evenly : ℕ → Grouping
evenly count = record { count = count; definitions = [] }

abbrev pub defined : List GroupDefinition → Grouping
defined ds = record { count = length ds; definitions = ds }

-- the definitions that there are
abbrev pub given_definitions : Option (List GroupDefinition) → List GroupDefinition
given_definitions None = []
given_definitions (Some ds) = ds
