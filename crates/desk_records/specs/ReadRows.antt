-- Written by tools/gen/sql-proofs from rows.txt of desk_records. What it makes is proved; the tool is not trusted.
-- The rows that are read: what each says, and which column breaks its rule.
use Rattle.std.specs.Prelude.{◌≡◌, [], ◌∷◌, Option, Some, pos}
use Rattle.std.specs.Option.{is_some, option_or}
use Rattle.sqlite_value.specs.declared.value.Value.TheVariants.{Int, Text, Blob}
use Rattle.sqlite_value.specs.Order.{Row, column}
use Rattle.desk_records.specs.Codes.{approval_in, feedback_number_in, first_broken, flag_in, group_count_in, number_in, outcome_in, percentage_in}
use Rattle.desk_records.specs.Codes.{percentage_or_none_in, place_in}
use Rattle.desk_records.specs.Columns.{has_digest, has_filename, has_filter, has_number, has_size, has_text, has_value, has_word}
pub use Rattle.rollout_model.specs.declared.module.ModuleLabel.{ModuleLabel}
pub use Rattle.desk_records.specs.declared.set_row.SetName.{SetName}
pub use Rattle.desk_records.specs.declared.artifact_row.StoredArtifact.{StoredArtifact}
pub use Rattle.rollout_model.specs.declared.artifact.Artifact.{Artifact}
pub use Rattle.desk_records.specs.declared.target_row.StoredTarget.{StoredTarget}
pub use Rattle.desk_records.specs.declared.target_row.ListedTarget.{ListedTarget}
pub use Rattle.desk_records.specs.declared.target_row.OwnedTag.{OwnedTag}
pub use Rattle.rollout_model.specs.declared.target.Attribute.{Attribute}
pub use Rattle.desk_records.specs.declared.target_row.OwnedAttribute.{OwnedAttribute}
pub use Rattle.desk_records.specs.declared.rollout_row.StoredRollout.{StoredRollout}
pub use Rattle.rollout_machine.specs.declared.records.GroupRecord.{GroupRecord}
pub use Rattle.desk_records.specs.declared.rollout_row.StoredAction.{StoredAction}
pub use Rattle.desk_records.specs.declared.rollout_row.ListedAction.{ListedAction}
pub use Rattle.rollout_model.specs.declared.rollout.Offer.{Offer}
pub use Rattle.rollout_model.specs.declared.group_rule.GroupRule.{GroupRule}
pub use Rattle.desk_records.specs.declared.number_row.PlacedNumber.{PlacedNumber}
pub use Rattle.desk_records.specs.declared.number_row.LastNumber.{LastNumber}
use Rattle.desk_records.specs.declared.table_columns.Column.{Column}
use Rattle.desk_records.specs.declared.table_columns.Column.TheVariants as rule

-- the row of name, type, version of module
pub record IsModuleLabelRow (row : Row) (x : ModuleLabel) : Type 0 where
  pub name : column row 0 ≡ Text x.name
  pub kind : column row 1 ≡ Text x.kind
  pub version : column row 2 ≡ Text x.version

-- the row of name, version of dset
pub record IsSetNameRow (row : Row) (x : SetName) : Type 0 where
  pub name : column row 0 ≡ Text x.name
  pub version : column row 1 ≡ Text x.version

-- the row of module, filename, size, sha256 of artifact
pub record IsStoredArtifactRow (row : Row) (x : StoredArtifact) : Type 0 where
  pub module_number : column row 0 ≡ Int (pos x.module_number)
  pub filename : column row 1 ≡ Text x.filename
  pub size : column row 2 ≡ Int (pos x.size)
  pub digest : column row 3 ≡ Blob x.digest

-- the row of number, filename, size, sha256 of artifact
pub record IsArtifactRow (row : Row) (x : Artifact) : Type 0 where
  pub number : column row 0 ≡ Int (pos x.number)
  pub filename : column row 1 ≡ Text x.filename
  pub size : column row 2 ≡ Int (pos x.size)
  pub digest : column row 3 ≡ Blob x.digest

-- the row of name, digest of target
pub record IsStoredTargetRow (row : Row) (x : StoredTarget) : Type 0 where
  pub name : column row 0 ≡ Text x.name
  pub digest : column row 1 ≡ Blob x.digest

-- the row of controller, name of target
pub record IsListedTargetRow (row : Row) (x : ListedTarget) : Type 0 where
  pub id : column row 0 ≡ Text x.id
  pub name : column row 1 ≡ Text x.name

-- the row of controller, tag of target_tag
pub record IsOwnedTagRow (row : Row) (x : OwnedTag) : Type 0 where
  pub id : column row 0 ≡ Text x.id
  pub tag : column row 1 ≡ Text x.tag

-- the row of key, value of target_attribute
pub record IsAttributeRow (row : Row) (x : Attribute) : Type 0 where
  pub key : column row 0 ≡ Text x.key
  pub value : column row 1 ≡ Text x.value

-- the row of controller, key, value of target_attribute
pub record IsOwnedAttributeRow (row : Row) (x : OwnedAttribute) : Type 0 where
  pub id : column row 0 ≡ Text x.id
  pub key : column row 1 ≡ Text x.attribute.key
  pub value : column row 2 ≡ Text x.attribute.value

-- the row of name, dset, filter_text, groups, success, error, approval, started, paused of rollout
pub record IsStoredRolloutRow (row : Row) (x : StoredRollout) : Type 0 where
  pub name : column row 0 ≡ Text x.plan.name
  pub set_number : number_in (column row 1) ≡ Some x.plan.set_number
  pub filter_text : column row 2 ≡ Text x.plan.filter_text
  pub groups : group_count_in (column row 3) ≡ Some x.plan.groups
  pub success : percentage_in (column row 4) ≡ Some x.plan.success
  pub error : percentage_in (column row 5) ≡ Some x.plan.error
  pub approval : approval_in (column row 6) ≡ Some x.approval
  pub started : flag_in (column row 7) ≡ Some x.started
  pub paused : flag_in (column row 8) ≡ Some x.paused

-- the row of number, first_place, last_place, started, ok, bad, gone of rollout_group
pub record IsGroupRow (row : Row) (x : GroupRecord) : Type 0 where
  pub number : column row 0 ≡ Int (pos x.number)
  pub first : column row 1 ≡ Int (pos x.bounds.first)
  pub last : column row 2 ≡ Int (pos x.bounds.last)
  pub started : flag_in (column row 3) ≡ Some x.started
  pub ok : column row 4 ≡ Int (pos x.ok)
  pub bad : column row 5 ≡ Int (pos x.bad)
  pub gone : column row 6 ≡ Int (pos x.gone)

-- the row of rollout, place, controller, canceling, outcome, notes, entries of action
pub record IsStoredActionRow (row : Row) (x : StoredAction) : Type 0 where
  pub rollout : number_in (column row 0) ≡ Some x.rollout
  pub position : column row 1 ≡ Int (pos x.position)
  pub target : column row 2 ≡ Text x.target
  pub canceling : flag_in (column row 3) ≡ Some x.canceling
  pub outcome : outcome_in (column row 4) ≡ Some x.outcome
  pub notes : column row 5 ≡ Int (pos x.notes)
  pub entries : column row 6 ≡ Int (pos x.entries)

-- the row of rollout, place, controller, canceling, outcome, notes, entries, number of action
pub record IsListedActionRow (row : Row) (x : ListedAction) : Type 0 where
  pub action : IsStoredActionRow row x.action
  pub number : number_in (column row 7) ≡ Some x.number

-- the row of action, kind of offer
pub record IsOfferRow (row : Row) (x : Offer) : Type 0 where
  pub action : number_in (column row 0) ≡ Some x.action
  pub canceling : flag_in (column row 1) ≡ Some x.canceling

-- the row of percentage, success, error of group_rule
pub record IsRuleRow (row : Row) (x : GroupRule) : Type 0 where
  pub percentage : percentage_or_none_in (column row 0) ≡ Some x.percentage
  pub success : percentage_in (column row 1) ≡ Some x.success
  pub error : percentage_in (column row 2) ≡ Some x.error

-- the row of sequence, number of feedback_number
pub record IsNumberRow (row : Row) (x : PlacedNumber) : Type 0 where
  pub sequence : place_in (column row 0) ≡ Some x.sequence
  pub number : feedback_number_in (column row 1) ≡ Some x.number

-- the row of sequence, number, place of feedback_number
pub record IsLastNumberRow (row : Row) (x : LastNumber) : Type 0 where
  pub it : IsNumberRow row x.it
  pub place : place_in (column row 2) ≡ Some x.place

-- ---- the first column of each that breaks its rule

abbrev pub broken_module_label_column : Row → Option Column
broken_module_label_column row = first_broken ((has_text (column row 0), rule.ModuleName) ∷ (has_text (column row 1), rule.ModuleType)
    ∷ (has_text (column row 2), rule.ModuleVersion) ∷ [])

abbrev pub broken_set_name_column : Row → Option Column
broken_set_name_column row = first_broken ((has_text (column row 0), rule.SetName) ∷ (has_text (column row 1), rule.SetVersion) ∷ [])

abbrev pub broken_stored_artifact_column : Row → Option Column
broken_stored_artifact_column row = first_broken ((has_number (column row 0), rule.ArtifactModule)
    ∷ (has_filename (column row 1), rule.ArtifactFilename) ∷ (has_size (column row 2), rule.ArtifactSize)
    ∷ (has_digest (column row 3), rule.ArtifactDigest) ∷ [])

abbrev pub broken_artifact_column : Row → Option Column
broken_artifact_column row = first_broken ((has_number (column row 0), rule.ArtifactNumber)
    ∷ (has_filename (column row 1), rule.ArtifactFilename) ∷ (has_size (column row 2), rule.ArtifactSize)
    ∷ (has_digest (column row 3), rule.ArtifactDigest) ∷ [])

abbrev pub broken_stored_target_column : Row → Option Column
broken_stored_target_column row = first_broken ((has_text (column row 0), rule.TargetName) ∷ (has_digest (column row 1), rule.TargetDigest) ∷ [])

abbrev pub broken_listed_target_column : Row → Option Column
broken_listed_target_column row = first_broken ((has_word (column row 0), rule.TargetId) ∷ (has_text (column row 1), rule.TargetName) ∷ [])

abbrev pub broken_owned_tag_column : Row → Option Column
broken_owned_tag_column row = first_broken ((has_word (column row 0), rule.TargetId) ∷ (has_word (column row 1), rule.TargetTag) ∷ [])

abbrev pub broken_attribute_column : Row → Option Column
broken_attribute_column row = first_broken ((has_word (column row 0), rule.AttributeKey) ∷ (has_value (column row 1), rule.AttributeValue) ∷ [])

abbrev pub broken_owned_attribute_column : Row → Option Column
broken_owned_attribute_column row = first_broken ((has_word (column row 0), rule.TargetId) ∷ (has_word (column row 1), rule.AttributeKey)
    ∷ (has_value (column row 2), rule.AttributeValue) ∷ [])

abbrev pub broken_stored_rollout_column : Row → Option Column
broken_stored_rollout_column row = first_broken ((has_text (column row 0), rule.RolloutName)
    ∷ (is_some (number_in (column row 1)), rule.RolloutSet) ∷ (has_filter (column row 2), rule.RolloutFilter)
    ∷ (is_some (group_count_in (column row 3)), rule.RolloutGroups) ∷ (is_some (percentage_in (column row 4)), rule.RolloutSuccess)
    ∷ (is_some (percentage_in (column row 5)), rule.RolloutError) ∷ (is_some (approval_in (column row 6)), rule.RolloutApproval)
    ∷ (is_some (flag_in (column row 7)), rule.RolloutStarted) ∷ (is_some (flag_in (column row 8)), rule.RolloutPaused) ∷ [])

abbrev pub broken_group_column : Row → Option Column
broken_group_column row = first_broken ((has_size (column row 0), rule.GroupNumber) ∷ (has_size (column row 1), rule.GroupFirst)
    ∷ (has_size (column row 2), rule.GroupLast) ∷ (is_some (flag_in (column row 3)), rule.GroupStarted) ∷ (has_size (column row 4), rule.GroupOk)
    ∷ (has_size (column row 5), rule.GroupBad) ∷ (has_size (column row 6), rule.GroupGone) ∷ [])

abbrev pub broken_stored_action_column : Row → Option Column
broken_stored_action_column row = first_broken ((is_some (number_in (column row 0)), rule.ActionRollout)
    ∷ (has_size (column row 1), rule.ActionPlace) ∷ (has_word (column row 2), rule.TargetId)
    ∷ (is_some (flag_in (column row 3)), rule.ActionCanceling) ∷ (is_some (outcome_in (column row 4)), rule.ActionOutcome)
    ∷ (has_size (column row 5), rule.ActionNotes) ∷ (has_size (column row 6), rule.ActionEntries) ∷ [])

abbrev pub broken_listed_action_column : Row → Option Column
broken_listed_action_column row = option_or (first_broken ((is_some (number_in (column row 7)), rule.ActionNumber) ∷ [])) (broken_stored_action_column row)

abbrev pub broken_offer_column : Row → Option Column
broken_offer_column row = first_broken ((is_some (number_in (column row 0)), rule.OfferAction)
    ∷ (is_some (flag_in (column row 1)), rule.OfferKind) ∷ [])

abbrev pub broken_rule_column : Row → Option Column
broken_rule_column row = first_broken ((is_some (percentage_or_none_in (column row 0)), rule.RulePercentage)
    ∷ (is_some (percentage_in (column row 1)), rule.RuleSuccess) ∷ (is_some (percentage_in (column row 2)), rule.RuleError) ∷ [])

abbrev pub broken_number_column : Row → Option Column
broken_number_column row = first_broken ((is_some (place_in (column row 0)), rule.NumberSequence)
    ∷ (is_some (feedback_number_in (column row 1)), rule.NumberValue) ∷ [])

abbrev pub broken_last_number_column : Row → Option Column
broken_last_number_column row = option_or (first_broken ((is_some (place_in (column row 2)), rule.NumberPlace) ∷ [])) (broken_number_column row)

-- ---- what each tells of the table's row

abbrev pub columns_of_module_label : Row → Row
columns_of_module_label row = column row 2 ∷ column row 3 ∷ column row 4 ∷ []

abbrev pub columns_of_set_name : Row → Row
columns_of_set_name row = column row 2 ∷ column row 3 ∷ []

abbrev pub columns_of_stored_artifact : Row → Row
columns_of_stored_artifact row = column row 2 ∷ column row 3 ∷ column row 4 ∷ column row 5 ∷ column row 0 ∷ []

abbrev pub columns_of_artifact : Row → Row
columns_of_artifact row = column row 0 ∷ column row 3 ∷ column row 4 ∷ column row 5 ∷ []

abbrev pub columns_of_stored_target : Row → Row
columns_of_stored_target row = column row 2 ∷ column row 3 ∷ []

abbrev pub columns_of_listed_target : Row → Row
columns_of_listed_target row = column row 1 ∷ column row 2 ∷ []

abbrev pub columns_of_owned_tag : Row → Row
columns_of_owned_tag row = column row 1 ∷ column row 2 ∷ []

abbrev pub columns_of_attribute : Row → Row
columns_of_attribute row = column row 2 ∷ column row 3 ∷ []

abbrev pub columns_of_owned_attribute : Row → Row
columns_of_owned_attribute row = column row 1 ∷ column row 2 ∷ column row 3 ∷ []

abbrev pub columns_of_stored_rollout : Row → Row
columns_of_stored_rollout row = column row 2 ∷ column row 3 ∷ column row 4 ∷ column row 5 ∷ column row 6 ∷ column row 7 ∷ column row 8 ∷ column row 9
    ∷ column row 10 ∷ []

abbrev pub columns_of_group : Row → Row
columns_of_group row = column row 2 ∷ column row 3 ∷ column row 4 ∷ column row 5 ∷ column row 6 ∷ column row 7 ∷ column row 8 ∷ []

abbrev pub columns_of_stored_action : Row → Row
columns_of_stored_action row = column row 2 ∷ column row 3 ∷ column row 4 ∷ column row 5 ∷ column row 6 ∷ column row 7 ∷ column row 8 ∷ column row 0
    ∷ []

abbrev pub columns_of_listed_action : Row → Row
columns_of_listed_action row = column row 2 ∷ column row 3 ∷ column row 4 ∷ column row 5 ∷ column row 6 ∷ column row 7 ∷ column row 8 ∷ column row 0
    ∷ []

abbrev pub columns_of_offer : Row → Row
columns_of_offer row = column row 2 ∷ column row 3 ∷ column row 1 ∷ []

abbrev pub columns_of_rule : Row → Row
columns_of_rule row = column row 3 ∷ column row 4 ∷ column row 5 ∷ []

abbrev pub columns_of_number : Row → Row
columns_of_number row = column row 3 ∷ column row 4 ∷ []

abbrev pub columns_of_last_number : Row → Row
columns_of_last_number row = column row 3 ∷ column row 4 ∷ column row 2 ∷ []
