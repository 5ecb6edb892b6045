-- What rows that are checked are read as.
use Rattle.std.specs.Prelude.{◌≡◌, Bool, true, false, not, ◌&&◌, ◌||◌, ◌^◌, nat_lt, Option, Some, None, pos}
use Rattle.std.specs.Option.{is_none, option_and_then, option_map}
use Rattle.sqlite_value.specs.declared.value.Value.{Value}
use Rattle.sqlite_value.specs.declared.value.Value.TheVariants.{Int, Text}
use Rattle.sqlite_value.specs.Order.{Row, column}
use Rattle.desk_records.specs.Codes.{outcome_in}
use Rattle.desk_records.specs.Columns.{has_number, has_word, small_number}
use Rattle.desk_records.specs.ReadRows.{IsOfferRow, IsStoredArtifactRow, broken_listed_action_column, broken_offer_column, broken_stored_artifact_column}
use Rattle.desk_records.specs.declared.checked_rows.CheckedArtifact.{CheckedArtifact}
use Rattle.desk_records.specs.declared.checked_rows.CountedAction.{CountedAction}
use Rattle.desk_records.specs.declared.checked_rows.OwnedOffer.{OwnedOffer}
use Rattle.desk_records.specs.declared.table_columns.Column.{Column}
use Rattle.desk_records.specs.declared.table_columns.Column.TheVariants as rule

-- ---- the row of module, filename, size, digest and number

pub record IsCheckedArtifactRow (row : Row) (a : CheckedArtifact) : Type 0 where
  pub artifact : IsStoredArtifactRow row a.artifact
  pub kept : broken_stored_artifact_column row ≡ None
  pub number : column row 4 ≡ Int (pos a.number)
  pub good : has_number (column row 4) ≡ true

abbrev pub keeps_artifact_rules : Row → Bool
keeps_artifact_rules row = is_none (broken_stored_artifact_column row) && has_number (column row 4)

-- ---- the row of action, kind and id

pub record IsOwnedOfferRow (row : Row) (o : OwnedOffer) : Type 0 where
  pub offer : IsOfferRow row o.offer
  pub id : column row 2 ≡ Text o.id
  pub word : has_word (column row 2) ≡ true

abbrev pub keeps_offer_rules : Row → Bool
keeps_offer_rules row = is_none (broken_offer_column row) && has_word (column row 2)

-- ---- the row of an action with its number at the end

-- it is a whole number of more than 32 bits
abbrev pub is_wide : Value → Bool
is_wide (Int (pos n)) = not (nat_lt n (2 ^ 32))
is_wide _ = false

abbrev pub are_entries : Option Column → Bool
are_entries (Some rule.ActionEntries) = true
are_entries _ = false

-- Its count of entries is too large to be read, which breaks no rule, since nothing limits a history. Every other column keeps its rule.
abbrev pub is_too_long : Row → Bool
is_too_long row = is_wide (column row 6) && are_entries (broken_listed_action_column row)

abbrev pub keeps_action_rules : Row → Bool
keeps_action_rules row = is_none (broken_listed_action_column row) || is_too_long row

-- ---- what is counted of the row of an action

-- the action in the columns of place and outcome; none where one of the two breaks its rule
abbrev pub counted_in : Value → Value → Option CountedAction
counted_in place outcome = option_and_then (λ at. option_map (λ ended. record { place = at; outcome = ended }) (outcome_in outcome)) (small_number place)

-- in a row that has its place second and its outcome fifth
abbrev pub counted_of : Row → Option CountedAction
counted_of row = counted_in (column row 1) (column row 4)
