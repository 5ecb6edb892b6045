-- When the table of members agrees, whatever rows it has.
use Rattle.std.specs.Prelude.{◌≡◌, ◌⊎◌, ℕ, ◌+◌}
use Rattle.sqlite_value.specs.Order.{Row}
use Rattle.sqlite_rules.specs.Lists.{Has}
use Rattle.rollout_machine.specs.Commands.{Bytes}
use Rattle.desk_records.specs.Schema.{Members}
use Rattle.desk_records.specs.TableRows.{IsMember}
use Rattle.desk_records.specs.Tables.{Tables}
use Rattle.desk_verify.specs.Rollouts.{IsThere}

-- the rollout has a member at the place
pub record HasPlace (t : Tables) (rollout place : ℕ) : Type 0 where
  pub row : Row
  pub among : Has (t Members) row
  pub id : Bytes
  pub is : IsMember row rollout place id

-- the row is a member of a rollout that is there; its place is the first, or follows one that has a member
pub record IsInPlace (t : Tables) (row : Row) : Type 0 where
  pub rollout : ℕ
  pub place : ℕ
  pub id : Bytes
  pub is : IsMember row rollout place id
  pub there : IsThere t rollout
  pub follows : (place ≡ 1) ⊎ ((before : ℕ) × (place ≡ before + 1) × HasPlace t rollout before)

-- places from 1 without a gap, of rollouts that are there
abbrev pub AgreesMembers : Tables → Type 0
AgreesMembers t = (row : Row) → Has (t Members) row → IsInPlace t row
