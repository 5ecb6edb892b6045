-- Written by tools/gen/sql-proofs from rows.txt of desk_records. What it makes is proved; the tool is not trusted.
-- Rows of the tables that can't be read.
use Rattle.std.specs.Prelude.{◌≡◌, ◌⊎◌, false, None}
use Rattle.sqlite_value.specs.Order.{Row, column}
use Rattle.desk_records.specs.Codes.{flag_in}
use Rattle.desk_records.specs.Columns.{has_bytes, has_number, has_size, has_word}
use Rattle.desk_records.specs.EntryRow.{BreaksEntry}
use Rattle.desk_records.specs.ReadRows.{broken_artifact_column, broken_attribute_column, broken_group_column, broken_last_number_column}
use Rattle.desk_records.specs.ReadRows.{broken_listed_action_column, broken_listed_target_column, broken_module_label_column, broken_number_column}
use Rattle.desk_records.specs.ReadRows.{broken_offer_column, broken_owned_attribute_column, broken_owned_tag_column, broken_rule_column}
use Rattle.desk_records.specs.ReadRows.{broken_set_name_column, broken_stored_action_column, broken_stored_artifact_column}
use Rattle.desk_records.specs.ReadRows.{broken_stored_rollout_column, broken_stored_target_column, columns_of_artifact, columns_of_attribute}
use Rattle.desk_records.specs.ReadRows.{columns_of_group, columns_of_last_number, columns_of_listed_action, columns_of_listed_target}
use Rattle.desk_records.specs.ReadRows.{columns_of_module_label, columns_of_number, columns_of_offer, columns_of_owned_attribute}
use Rattle.desk_records.specs.ReadRows.{columns_of_owned_tag, columns_of_rule, columns_of_set_name, columns_of_stored_action}
use Rattle.desk_records.specs.ReadRows.{columns_of_stored_artifact, columns_of_stored_rollout, columns_of_stored_target}
use Rattle.desk_records.specs.RowFaults.{BreaksRule}
use Rattle.desk_records.specs.TableRows.{columns_of_entry}
use Rattle.desk_records.specs.Schema.{Place, Actions, Artifacts, Desk, Feedbacks, Groups, Members, Modules, Numbers, Offers, Pieces, Rollouts, Rules}
use Rattle.desk_records.specs.Schema.{SetModules, Sets, TargetAttributes, TargetTags, Targets}
use Rattle.desk_records.specs.declared.table_columns.Column.{Column}

-- the row's own number isn't one of 32 bits
abbrev pub HasNoKey : Row → Type 0
HasNoKey row = has_size (column row 0) ≡ false

-- a row of the table breaks the rule of a column that is read
abbrev pub BreaksColumn : Place → Row → Type 0
BreaksColumn Desk row = flag_in (column row 4) ≡ None
BreaksColumn Modules row = HasNoKey row ⊎ BreaksRule (broken_module_label_column (columns_of_module_label row))
BreaksColumn Sets row = HasNoKey row ⊎ BreaksRule (broken_set_name_column (columns_of_set_name row))
BreaksColumn SetModules row = has_number (column row 3) ≡ false
BreaksColumn Artifacts row = HasNoKey row
    ⊎ (BreaksRule (broken_stored_artifact_column (columns_of_stored_artifact row)) ⊎ BreaksRule (broken_artifact_column (columns_of_artifact row)))
BreaksColumn Pieces row = has_bytes (column row 3) ≡ false
BreaksColumn Targets row = BreaksRule (broken_stored_target_column (columns_of_stored_target row))
    ⊎ BreaksRule (broken_listed_target_column (columns_of_listed_target row))
BreaksColumn TargetTags row = BreaksRule (broken_owned_tag_column (columns_of_owned_tag row))
BreaksColumn TargetAttributes row = BreaksRule (broken_attribute_column (columns_of_attribute row))
    ⊎ BreaksRule (broken_owned_attribute_column (columns_of_owned_attribute row))
BreaksColumn Rollouts row = HasNoKey row ⊎ BreaksRule (broken_stored_rollout_column (columns_of_stored_rollout row))
BreaksColumn Members row = has_word (column row 3) ≡ false
BreaksColumn Groups row = BreaksRule (broken_group_column (columns_of_group row))
BreaksColumn Actions row = HasNoKey row
    ⊎ (BreaksRule (broken_stored_action_column (columns_of_stored_action row)) ⊎ BreaksRule (broken_listed_action_column (columns_of_listed_action row)))
BreaksColumn Feedbacks row = (c : Column) × BreaksEntry (columns_of_entry row) c
BreaksColumn Offers row = BreaksRule (broken_offer_column (columns_of_offer row))
BreaksColumn Rules row = BreaksRule (broken_rule_column (columns_of_rule row))
BreaksColumn Numbers row = BreaksRule (broken_number_column (columns_of_number row)) ⊎ BreaksRule (broken_last_number_column (columns_of_last_number row))
