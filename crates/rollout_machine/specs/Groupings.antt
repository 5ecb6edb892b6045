-- Where groups end, as a plan cuts them: evenly, or by the percentages of its definitions.
use Rattle.std.specs.Prelude.{◌≡◌, ℕ, ◌+◌, ◌-◌, Bool, true, false, nat_lt, List, [], ◌∷◌, map, is_some}
use Rattle.rollout_machine.specs.Groups.{IsCut, last_position}
use Rattle.rollout_machine.specs.Ranges.{each_from}
use Rattle.rollout_machine.specs.Splits.{first_empty, split_last}
use Rattle.rollout_machine.specs.declared.bounds.Bounds.{Bounds}
pub use Rattle.rollout_model.specs.Groupings.{Grouping}
use Rattle.rollout_model.specs.Groupings.{is_grouping}
pub use Rattle.rollout_model.specs.declared.group_definition.GroupDefinition.{GroupDefinition}

abbrev pub percentages : List GroupDefinition → List ℕ
percentages ds = map (λ (d : GroupDefinition). d.percentage) ds

-- the last position of group i of m members: of so many even groups, or as the definitions say
abbrev pub last_by : Grouping → ℕ → ℕ → ℕ
last_by g m i = elim g.definitions [ [] ↦ last_position m g.count i | d ∷ ds ↦ split_last m (percentages (d ∷ ds)) i ]

abbrev pub bounds_by : Grouping → ℕ → ℕ → Bounds
bounds_by g m i = record { first = last_by g m (i - 1) + 1; last = last_by g m i }

-- the bounds of all groups
abbrev pub cut_by : Grouping → ℕ → List Bounds
cut_by g m = each_from (bounds_by g m) 1 g.count

-- some group would be empty
abbrev pub leaves_empty : Grouping → ℕ → Bool
leaves_empty g m = elim g.definitions [ [] ↦ nat_lt m g.count | d ∷ ds ↦ is_some (first_empty m (percentages (d ∷ ds))) ]

-- Where no group would be empty, the groups follow one another from the first member to the last.
abbrev pub GroupingCovers : Type 0
GroupingCovers = (g : Grouping) (m : ℕ) → is_grouping g ≡ true → leaves_empty g m ≡ false → IsCut (last_by g m) m g.count
