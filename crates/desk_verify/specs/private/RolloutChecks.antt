-- The check of a table whose rows are each of a rollout: those of one rollout, and those of all.
use Rattle.std.specs.Prelude.{◌≤◌, ℕ, Option, Some, None, pos}
use Rattle.sqlite_value.specs.Order.{Row}
use Rattle.sqlite_trees.specs.Tree.{has_rowid}
use Rattle.desk_records.specs.Listings.{IsLastNumber, IsOnly, has_at}
use Rattle.desk_records.specs.Schema.{Place, Rollouts}
use Rattle.desk_records.specs.TableRows.{IsRollout}
use Rattle.desk_records.specs.Tables.{Tables}
use Rattle.desk_records.specs.declared.rollout_row.StoredRollout.{StoredRollout}
use Rattle.desk_store.specs.Blaming.{Reading, ReadsOf}
use Rattle.desk_verify.specs.Rollouts.{IsThere}
use Rattle.desk_verify.specs.private.Judged.{AreJudged, within}

-- it is the rollout of this number, which is from 1 on
pub record HasRollout (t : Tables) (number : ℕ) (rollout : StoredRollout) : Type 0 where
  pub low : 1 ≤ number
  pub is : IsOnly (t Rollouts) (has_rowid (pos number)) IsRollout rollout

-- what is known of what is read while this rollout is checked
pub record IsAtRollout (Given : Reading → Type 0) (number : ℕ) (rollout : StoredRollout) (reading : Reading) : Type 0 where
  pub has : HasRollout reading.tables number rollout
  pub given : Given reading

-- .. while the rows of a table are gone through by rollouts
pub record IsGoneThrough (table : Place) (Given : Reading → Type 0) (reading : Reading) : Type 0 where
  pub rollouts : ReadsOf Rollouts reading
  pub rows : ReadsOf table reading
  pub given : Given reading

-- it is a number from 1 up to that of a rollout that is there
pub record IsUpTo (number : ℕ) (t : Tables) : Type 0 where
  pub low : 1 ≤ number
  pub last : ℕ
  pub high : number ≤ last
  pub there : IsThere t last

-- .. and rollouts are read
pub record ReadsUpTo (number : ℕ) (reading : Reading) : Type 0 where
  pub up : IsUpTo number reading.tables
  pub rollouts : ReadsOf Rollouts reading

-- The rows of the table, with the rollout's number at this column, are each to be right, and each rollout is to be whole.
module _ (table : Place) (column : ℕ) (IsRight : Tables → Row → Type 0) (IsWhole : Tables → ℕ → Type 0) where
  -- those of one rollout are, and they are so many
  pub record IsChecked (t : Tables) (rollout count : ℕ) : Type 0 where
    pub rows : AreJudged (t table) (IsRight t) (has_at column rollout) count
    pub whole : IsWhole t rollout

  -- those of the rollouts from 1 to the last are
  pub record AreChecked (t : Tables) (last count : ℕ) : Type 0 where
    pub rows : AreJudged (t table) (IsRight t) (within column last) count
    pub whole : (rollout : ℕ) → 1 ≤ rollout → rollout ≤ last → IsWhole t rollout

  -- those of all rollouts that are there are
  pub record AreAllChecked (t : Tables) (count : ℕ) : Type 0 where
    pub last : ℕ
    pub is_last : IsLastNumber (t Rollouts) last
    pub checked : AreChecked t last count

  -- nothing is said to be right of a table that doesn't agree
  module _ (Agrees : Tables → Type 0) where
    abbrev pub JudgesOne : Tables → ℕ → Option ℕ → Type 0
    JudgesOne t rollout (Some count) = IsChecked t rollout count
    JudgesOne t rollout None = Agrees t → ⊥

    abbrev pub JudgesAll : Tables → Option ℕ → Type 0
    JudgesAll t (Some count) = AreAllChecked t count
    JudgesAll t None = Agrees t → ⊥
