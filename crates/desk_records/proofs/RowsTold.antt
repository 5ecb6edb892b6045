-- Written by tools/gen/sql-proofs from rows.txt of desk_records. What it makes is proved; the tool is not trusted.
-- What is written in a row is what is read of it, a row says one thing, and it breaks no column.
use Rattle.std.proofs.Common.{◌≡◌, true, Some, None, arith}
use Rattle.sqlite_value.specs.Order.{Row, column}
use Rattle.desk_records.proofs.WrittenRows.{shown_artifact, shown_attribute, shown_group, shown_last_number, shown_listed_action, shown_listed_target}
use Rattle.desk_records.proofs.WrittenRows.{shown_module_label, shown_number, shown_offer, shown_owned_attribute, shown_owned_tag, shown_rule}
use Rattle.desk_records.proofs.WrittenRows.{shown_set_name, shown_stored_action, shown_stored_artifact, shown_stored_rollout, shown_stored_target}
use Rattle.desk_records.specs.Codes.{number_in}
use Rattle.desk_records.specs.Columns.{has_filter, has_size, has_text, has_word}
use Rattle.desk_records.specs.ReadRows.{Artifact, Attribute, GroupRecord, GroupRule, IsArtifactRow, IsAttributeRow, IsGroupRow, IsLastNumberRow}
use Rattle.desk_records.specs.ReadRows.{IsListedActionRow, IsListedTargetRow, IsModuleLabelRow, IsNumberRow, IsOfferRow, IsOwnedAttributeRow}
use Rattle.desk_records.specs.ReadRows.{IsOwnedTagRow, IsRuleRow, IsSetNameRow, IsStoredActionRow, IsStoredArtifactRow, IsStoredRolloutRow}
use Rattle.desk_records.specs.ReadRows.{IsStoredTargetRow, LastNumber, ListedAction, ListedTarget, ModuleLabel, Offer, OwnedAttribute, OwnedTag}
use Rattle.desk_records.specs.ReadRows.{PlacedNumber, SetName, StoredAction, StoredArtifact, StoredRollout, StoredTarget, broken_listed_action_column}
use Rattle.desk_records.specs.ReadRows.{broken_offer_column, broken_rule_column, broken_stored_action_column, broken_stored_rollout_column}
use Rattle.desk_records.proofs.KeptColumns.{kept_approval, kept_flag, kept_number, kept_outcome, kept_percentage_or_none, kept_place, one_in}

pub one_module_label : (a b : ModuleLabel) → IsModuleLabelRow (shown_module_label b) a → a ≡ b
one_module_label a b h = grind arith

pub one_set_name : (a b : SetName) → IsSetNameRow (shown_set_name b) a → a ≡ b
one_set_name a b h = grind arith

pub one_stored_artifact : (a b : StoredArtifact) → IsStoredArtifactRow (shown_stored_artifact b) a → a ≡ b
one_stored_artifact a b h = grind arith

pub one_artifact : (a b : Artifact) → IsArtifactRow (shown_artifact b) a → a ≡ b
one_artifact a b h = grind arith

pub one_stored_target : (a b : StoredTarget) → IsStoredTargetRow (shown_stored_target b) a → a ≡ b
one_stored_target a b h = grind arith

pub one_listed_target : (a b : ListedTarget) → IsListedTargetRow (shown_listed_target b) a → a ≡ b
one_listed_target a b h = grind arith

pub one_owned_tag : (a b : OwnedTag) → IsOwnedTagRow (shown_owned_tag b) a → a ≡ b
one_owned_tag a b h = grind arith

pub one_attribute : (a b : Attribute) → IsAttributeRow (shown_attribute b) a → a ≡ b
one_attribute a b h = grind arith

pub one_owned_attribute : (a b : OwnedAttribute) → IsOwnedAttributeRow (shown_owned_attribute b) a → a ≡ b
one_owned_attribute a b h = grind arith

pub one_stored_rollout : (a b : StoredRollout) → IsStoredRolloutRow (shown_stored_rollout b) a → a ≡ b
one_stored_rollout a b h = grind (arith, kept_approval, kept_flag, kept_number)

pub one_group : (a b : GroupRecord) → IsGroupRow (shown_group b) a → a ≡ b
one_group a b h = grind (arith, kept_flag)

pub one_stored_action : (a b : StoredAction) → IsStoredActionRow (shown_stored_action b) a → a ≡ b
one_stored_action a b h = grind (arith, kept_flag, kept_number, kept_outcome)

pub one_listed_action : (a b : ListedAction) → IsListedActionRow (shown_listed_action b) a → a ≡ b
one_listed_action a b h = grind (arith, kept_flag, kept_number, kept_outcome)

pub one_offer : (a b : Offer) → IsOfferRow (shown_offer b) a → a ≡ b
one_offer a b h = grind (arith, kept_flag, kept_number)

pub one_rule : (a b : GroupRule) → IsRuleRow (shown_rule b) a → a ≡ b
one_rule a b h = grind (arith, kept_number, kept_percentage_or_none)

pub one_number : (a b : PlacedNumber) → IsNumberRow (shown_number b) a → a ≡ b
one_number a b h = grind (arith, kept_number, kept_place)

pub one_last_number : (a b : LastNumber) → IsLastNumberRow (shown_last_number b) a → a ≡ b
one_last_number a b h = grind (arith, kept_number, kept_place)

-- ---- a row says one thing

pub same_group : (row : Row) (a b : GroupRecord) → IsGroupRow row a → IsGroupRow row b → a ≡ b
same_group row a b is other = grind (arith, one_in)

pub same_stored_action : (row : Row) (a b : StoredAction) → IsStoredActionRow row a → IsStoredActionRow row b → a ≡ b
same_stored_action row a b is other = grind (arith, one_in)

-- ---- .. and breaks no column

pub whole_stored_rollout : (row : Row) (x : StoredRollout) → IsStoredRolloutRow row x → has_text (column row 0) ≡ true → has_filter (column row 2) ≡ true
    → broken_stored_rollout_column row ≡ None
whole_stored_rollout row x says name filter_text = grind arith

pub whole_stored_action : (row : Row) (x : StoredAction) → IsStoredActionRow row x → has_size (column row 1) ≡ true → has_word (column row 2) ≡ true
    → has_size (column row 5) ≡ true → has_size (column row 6) ≡ true → broken_stored_action_column row ≡ None
whole_stored_action row x says position target notes entries = grind arith

pub whole_listed_action : (row : Row) (x : ListedAction) → (broken_stored_action_column row ≡ None) → number_in (column row 7) ≡ Some x.number
    → broken_listed_action_column row ≡ None
whole_listed_action row x whole number = grind arith

pub whole_offer : (row : Row) (x : Offer) → IsOfferRow row x → broken_offer_column row ≡ None
whole_offer row x says = grind arith

pub whole_rule : (row : Row) (x : GroupRule) → IsRuleRow row x → broken_rule_column row ≡ None
whole_rule row x says = grind arith
