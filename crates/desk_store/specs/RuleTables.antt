-- What tables say of how a rollout is cut into groups.
use Rattle.std.specs.Prelude.{◌≡◌, ℕ, suc, true, List, [], ◌∷◌, length, filter_map, Option, Some, None, pos, if◌then◌else◌}
use Rattle.std.specs.Option.{option_map}
use Rattle.sqlite_value.specs.Order.{Row, column}
use Rattle.sqlite_trees.specs.Tree.{has_rowid}
use Rattle.sqlite_rules.specs.Lists.{Has}
use Rattle.rollout_model.specs.Groupings.{Grouping, is_grouping}
use Rattle.rollout_model.specs.declared.group_definition.GroupDefinition.{GroupDefinition}
use Rattle.rollout_model.specs.declared.group_rule.GroupRule.{GroupRule}
use Rattle.desk_records.specs.Codes.{group_count_in}
use Rattle.desk_records.specs.FoundPieces.{lies_at}
use Rattle.desk_records.specs.Listings.{IsSaid}
use Rattle.desk_records.specs.Schema.{Rollouts, Rules}
use Rattle.desk_records.specs.Tables.{Tables}
use Rattle.desk_store.specs.RawLists.{SaysRule}

-- the rollout is there, and is to have n groups: from 1 to 50, by the rule of the column
pub record HasGroupCount (t : Tables) (rollout n : ℕ) : Type 0 where
  pub row : Row
  pub among : Has (t Rollouts) row
  pub numbered : has_rowid (pos rollout) row ≡ true
  pub says : group_count_in (column row 5) ≡ Some n

-- ---- what is said of its groups

-- a row says this of group i
abbrev pub HasRule : Tables → ℕ → ℕ → GroupRule → Type 0
HasRule t rollout i rule = IsSaid (t Rules) (lies_at rollout i) SaysRule rule

-- no row is of it
abbrev pub HasNoRule : Tables → ℕ → ℕ → Type 0
HasNoRule t rollout i = (row : Row) → Has (t Rules) row → lies_at rollout i row ≡ true → ⊥

-- so is each of these, the first of which is of group i
abbrev pub HaveRules : (ℕ → GroupRule → Type 0) → ℕ → List GroupRule → Type 0
HaveRules Has i [] = Unit {0}
HaveRules Has i (rule ∷ rules) = Has i rule × HaveRules Has (suc i) rules

-- ---- the grouping that rules make

-- the definition of a group that has a percentage
abbrev pub definition_by : GroupRule → Option GroupDefinition
definition_by rule = option_map (λ p. record { percentage = p; success = rule.success; error = rule.error }) rule.percentage

abbrev pub definitions_in : List GroupRule → List GroupDefinition
definitions_in rules = filter_map definition_by rules

-- where it keeps its rules
abbrev pub if_grouping : Grouping → Option Grouping
if_grouping groups = if is_grouping groups then Some groups else None

-- so many groups, with definitions of each or of none
abbrev pub grouping_with : ℕ → List GroupDefinition → Option Grouping
grouping_with count ds = if_grouping (record { count = count; definitions = ds })

-- even where none has a percentage; else each has one, of which the last is 100
abbrev pub grouping_of : List GroupRule → Option Grouping
grouping_of rules = grouping_with (length rules) (definitions_in rules)
