-- What an opening counts: a failed store is a call that failed.
use Rattle.std.specs.Prelude.{◌≡◌, ◌≤◌, ◌<◌, ◌^◌, ℕ, length, Some, None, Result, IfErr}
use Rattle.std.specs.List.{AllByRecursion}
use Rattle.sqlite.specs.State.{State, HasCleanDisk}
use Rattle.sql_calls.specs.Standing.{Rests}
use Rattle.rollout_machine.specs.ByteStrings.{item_numbered}
use Rattle.rollout_machine.specs.Records.{Records}
use Rattle.rollout_machine.specs.declared.records.RolloutRecord.{RolloutRecord}
use Rattle.desk_records.specs.Holds.{Ledger}
use Rattle.desk_records.specs.Readable.{HoldsAt}
use Rattle.desk_records.specs.ReadRows.{broken_stored_rollout_column}
use Rattle.desk_records.specs.Rollouts.{told_rollout}
use Rattle.desk_records.specs.Schema.{Rollouts}
use Rattle.desk_records.specs.declared.version.Version.{Version}
use Rattle.sql_calls.specs.declared.calls.Calls.{Calls}
use Rattle.desk_store.specs.Blaming.{HasFailed}
use Rattle.desk_store.specs.Readable.{KeepsColumns}
use Rattle.desk_opening.specs.declared.opening.OpenFault.{OpenFault}
use Rattle.desk_opening.specs.declared.opening.OpenFault.TheVariants.{Store}

-- ---- what a migration reads

-- the row of the rollout keeps the rule of each column
abbrev pub IsRolloutReadable : RolloutRecord → Type 0
IsRolloutReadable x = broken_stored_rollout_column (told_rollout x) ≡ None

-- those of all rollouts do, and 32 bits count them
pub record AreReadable (r : Records) : Type 0 where
  pub keep : AllByRecursion IsRolloutReadable r.rollouts
  pub few : length r.rollouts < 2 ^ 32

-- the rollouts that are held can be read, and there is one of this number
pub record HasReadable (number : ℕ) (l : Ledger) : Type 0 where
  pub keep : KeepsColumns Rollouts l
  pub rollout : RolloutRecord
  pub is_there : item_numbered l.records.rollouts number ≡ Some rollout

-- ---- what an opening tells

-- No count falls, and where this is so, a failed store is a call that failed.
pub record CountsWhere (Where : Type 0) {S A : Type 0} (old new : Calls S) (result : Result A OpenFault) : Type 0 where
  pub grows : old.failures ≤ new.failures
  pub cause : IfErr result (λ e. Where → e ≡ Store → HasFailed old.failures new.failures)

-- whatever is seen
abbrev pub CountsOpening : {S A : Type 0} → Calls S → Calls S → Result A OpenFault → Type 0
CountsOpening = CountsWhere (Unit {0})

-- the tables of a version hold records that can be read
abbrev pub IsReadableAt : Version → State → State → Type 0
IsReadableAt v old new = (r : Records) × Rests (HoldsAt v) old r × AreReadable r × HasCleanDisk new
