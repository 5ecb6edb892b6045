-- When the table of groups agrees, whatever rows it has.
use Rattle.std.specs.Prelude.{◌≡◌, ◌≤◌, ◌&&◌, ℕ, Bool, false, List, filter, length, Some}
use Rattle.sqlite_value.specs.Order.{Row}
use Rattle.sqlite_rules.specs.Lists.{Has}
use Rattle.rollout_machine.specs.Counts.{is_outcome}
use Rattle.rollout_machine.specs.GroupRules.{GroupRule}
use Rattle.rollout_machine.specs.Groupings.{Grouping, bounds_by, leaves_empty}
use Rattle.rollout_machine.specs.Groups.{holds_position}
use Rattle.rollout_machine.specs.declared.bounds.Bounds.{Bounds}
use Rattle.rollout_machine.specs.declared.outcome.Outcome.{Outcome}
use Rattle.rollout_machine.specs.declared.outcome.Outcome.TheVariants.{Good, Bad, Gone}
use Rattle.rollout_machine.specs.declared.records.GroupRecord.{GroupRecord}
use Rattle.desk_records.specs.CountedActions.{is_counted}
use Rattle.desk_records.specs.PlaceLists.{is_of}
use Rattle.desk_records.specs.Schema.{Actions, Groups, Members}
use Rattle.desk_records.specs.TableRows.{IsGroup}
use Rattle.desk_records.specs.Tables.{Tables}
use Rattle.desk_records.specs.declared.checked_rows.CountedAction.{CountedAction}
use Rattle.desk_store.specs.RuleTables.{HasGroupCount, HasRule, HaveRules, grouping_of}

-- ---- what the other tables say

-- the rollout is there and is cut so, by what is said of each of its groups
pub record IsCutBy (t : Tables) (rollout : ℕ) (groups : Grouping) : Type 0 where
  pub there : HasGroupCount t rollout groups.count
  pub rules : List GroupRule
  pub have : HaveRules (HasRule t rollout) 1 rules
  pub make : grouping_of rules ≡ Some groups

-- how many members the rollout has
abbrev pub member_count : Tables → ℕ → ℕ
member_count t rollout = length (filter (is_of rollout) (t Members))

-- the action is at a place between the bounds, and ended so
abbrev pub has_ended : Bounds → Outcome → CountedAction → Bool
has_ended bounds outcome action = holds_position action.place bounds && is_outcome outcome action.outcome

-- how many actions of the rollout have
abbrev pub ended_in : Tables → ℕ → Bounds → Outcome → ℕ
ended_in t rollout bounds outcome = length (filter (is_counted rollout (has_ended bounds outcome)) (t Actions))

-- ---- groups

-- one of the groups of the rollout: it has the bounds that it gets where the members are cut so, and counts the actions between them
pub record IsRightGroup (t : Tables) (rollout : ℕ) (groups : Grouping) (group : GroupRecord) : Type 0 where
  pub low : 1 ≤ group.number
  pub high : group.number ≤ groups.count
  pub bounds : group.bounds ≡ bounds_by groups (member_count t rollout) group.number
  pub ok : group.ok ≡ ended_in t rollout group.bounds Good
  pub bad : group.bad ≡ ended_in t rollout group.bounds Bad
  pub gone : group.gone ≡ ended_in t rollout group.bounds Gone

-- the row is such a group of a rollout that is there, of which no group is empty
pub record IsInRollout (t : Tables) (row : Row) : Type 0 where
  pub rollout : ℕ
  pub groups : Grouping
  pub group : GroupRecord
  pub is : IsGroup row rollout group
  pub cut : IsCutBy t rollout groups
  pub enough : leaves_empty groups (member_count t rollout) ≡ false
  pub right : IsRightGroup t rollout groups group

-- the rollout has a group of the number
pub record HasGroup (t : Tables) (rollout i : ℕ) : Type 0 where
  pub row : Row
  pub among : Has (t Groups) row
  pub group : GroupRecord
  pub is : IsGroup row rollout group
  pub number : group.number ≡ i

-- each row is a group as it is to be, and each rollout has one of each number up to that of its groups
pub record AgreesGroups (t : Tables) : Type 0 where
  pub each : (row : Row) → Has (t Groups) row → IsInRollout t row
  pub all : (rollout n i : ℕ) → 1 ≤ rollout → HasGroupCount t rollout n → 1 ≤ i → i ≤ n → HasGroup t rollout i
