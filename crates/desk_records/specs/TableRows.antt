-- What rows of tables say, each column keeping its rule.
use Rattle.std.specs.Prelude.{◌≡◌, ℕ, true, ◌∷◌, [], None, Some, pos}
use Rattle.sqlite_value.specs.declared.value.Value.TheVariants.{Blob, Int, Text}
use Rattle.sqlite_value.specs.Order.{Row, column}
use Rattle.rollout_machine.specs.Reports.{HistoryEntry}
use Rattle.rollout_machine.specs.Commands.{Bytes}
use Rattle.rollout_machine.specs.declared.records.GroupRecord.{GroupRecord}
use Rattle.rollout_model.specs.declared.rollout.Offer.{Offer}
use Rattle.desk_records.specs.Codes.{number_in}
use Rattle.desk_records.specs.Columns.{has_size, has_word, small_number}
use Rattle.desk_records.specs.EntryRow.{IsEntryRow}
use Rattle.desk_records.specs.ReadRows.{IsStoredActionRow, IsGroupRow, IsOfferRow, IsStoredRolloutRow, IsStoredArtifactRow, broken_group_column}
use Rattle.desk_records.specs.ReadRows.{broken_stored_artifact_column}
use Rattle.desk_records.specs.ReadRows.{columns_of_stored_action, columns_of_stored_artifact, columns_of_group, columns_of_offer, columns_of_stored_rollout}
use Rattle.desk_records.specs.declared.artifact_row.StoredArtifact.{StoredArtifact}
use Rattle.desk_records.specs.declared.rollout_row.StoredAction.{StoredAction}
use Rattle.desk_records.specs.declared.rollout_row.StoredRollout.{StoredRollout}

-- ---- what is shown of a row

abbrev pub columns_of_entry : Row → Row
columns_of_entry row = column row 3 ∷ column row 4 ∷ column row 5 ∷ []

-- ---- what it says

-- the artifact of a number
pub record IsArtifact (row : Row) (number : ℕ) (a : StoredArtifact) : Type 0 where
  pub number_is : number_in (column row 0) ≡ Some number
  pub shows : IsStoredArtifactRow (columns_of_stored_artifact row) a
  pub kept : broken_stored_artifact_column (columns_of_stored_artifact row) ≡ None

-- the piece of an artifact at a place of the sequence
pub record IsPiece (row : Row) (number sequence : ℕ) (bytes : Bytes) : Type 0 where
  pub number_is : column row 1 ≡ Int (pos number)
  pub sequence_is : column row 2 ≡ Int (pos sequence)
  pub bytes_are : column row 3 ≡ Blob bytes

abbrev pub IsRollout : Row → StoredRollout → Type 0
IsRollout row x = IsStoredRolloutRow (columns_of_stored_rollout row) x

-- a member of a rollout, at its place
pub record IsMember (row : Row) (rollout place : ℕ) (id : Bytes) : Type 0 where
  pub rollout_is : number_in (column row 1) ≡ Some rollout
  pub place_is : small_number (column row 2) ≡ Some place
  pub id_is : column row 3 ≡ Text id
  pub word : has_word (column row 3) ≡ true

-- a group of a rollout
pub record IsGroup (row : Row) (rollout : ℕ) (g : GroupRecord) : Type 0 where
  pub rollout_is : number_in (column row 1) ≡ Some rollout
  pub shows : IsGroupRow (columns_of_group row) g
  pub kept : broken_group_column (columns_of_group row) ≡ None

-- The action of a number. Its count of entries is a whole number of any size, since nothing limits a history.
pub record IsAction (row : Row) (number : ℕ) (a : StoredAction) : Type 0 where
  pub number_is : number_in (column row 0) ≡ Some number
  pub shows : IsStoredActionRow (columns_of_stored_action row) a
  pub place : has_size (column row 3) ≡ true
  pub word : has_word (column row 4) ≡ true
  pub notes : has_size (column row 7) ≡ true

-- the entry of an action's history at a place of its sequence
pub record IsEntry (row : Row) (sequence : ℕ) (entry : HistoryEntry) : Type 0 where
  pub sequence_is : column row 2 ≡ Int (pos sequence)
  pub shows : IsEntryRow (columns_of_entry row) entry

-- what a target is offered
pub record IsOffer (row : Row) (id : Bytes) (o : Offer) : Type 0 where
  pub id_is : column row 1 ≡ Text id
  pub word : has_word (column row 1) ≡ true
  pub shows : IsOfferRow (columns_of_offer row) o
