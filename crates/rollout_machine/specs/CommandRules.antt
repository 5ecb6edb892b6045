-- The rules that the parts of a command keep: those of the words and numbers, ranges, and the limits of lists.
use Rattle.rollout_model.specs.Groupings.{is_grouping}
use Rattle.rollout_model.specs.Pairs.{is_attribute}
use Rattle.rollout_model.specs.Rows.{is_target_row}
use Rattle.rollout_model.specs.Rules.{are_details, is_percentage, is_word, is_filename, is_text, is_byte, is_digest}
use Rattle.rollout_model.specs.Rules.{is_feedback_number, is_module_list, is_number}
use Rattle.rollout_machine.specs.Commands.{AddArtifact, Cancel, CancelFeedback, RolloutPlan, Start, Command, Pause, CreateRollout}
use Rattle.rollout_machine.specs.Commands.{PutTargets, Untag, Deny, Approve, AddModule, Feedback, PutAttributes, Tag, Resume, TriggerNext}
use Rattle.rollout_machine.specs.Commands.{AddSet, Credential, DeviceFeedback}
use Rattle.rollout_model.specs.Limits.{limits}
use Rattle.std.specs.Prelude.{◌≡◌, Bool, true, ◌&&◌, nat_le, length}
use Rattle.std.specs.List.{list_all}
use Rattle.std.specs.Option.{option_map_or}
use Rattle.std.specs.Str.{is_utf8}

-- ---- parts

abbrev pub is_credential : Credential → Bool
is_credential device = is_word device.id && is_digest device.digest

abbrev pub is_device_feedback : {W : Type 0} → DeviceFeedback W → Bool
is_device_feedback feedback = is_credential feedback.credential
    && (is_number feedback.action && (are_details feedback.details && option_map_or is_feedback_number feedback.number true))

-- the filter is any text: the verdict looks at it
abbrev pub is_plan : RolloutPlan → Bool
is_plan plan = is_grouping plan.groups && (is_percentage plan.success
    && (is_percentage plan.error && (is_text plan.name && (is_number plan.set_number && is_utf8 plan.filter_text))))

-- ---- commands. An import has any number of rows and may name a target twice
abbrev pub is_well_formed : Command → Bool
is_well_formed (AddModule label) = is_text label.name && (is_text label.kind && is_text label.version)
is_well_formed (AddArtifact u) = is_number u.module_number && (is_filename u.filename
    && (option_map_or is_digest u.expected true && (nat_le (length u.contents) limits.artifact_size && list_all is_byte u.contents)))
is_well_formed (AddSet s) = is_text s.name && (is_text s.version && is_module_list s.modules)
is_well_formed (PutTargets rows) = list_all is_target_row rows
is_well_formed (Tag t x) = is_word t && is_word x
is_well_formed (Untag t x) = is_word t && is_word x
is_well_formed (PutAttributes device attributes) = is_credential device && (nat_le (length attributes) limits.attributes && list_all is_attribute attributes)
is_well_formed (CreateRollout plan) = is_plan plan
is_well_formed (Approve r) = is_number r
is_well_formed (Deny r) = is_number r
is_well_formed (Start r) = is_number r
is_well_formed (Pause r) = is_number r
is_well_formed (Resume r) = is_number r
is_well_formed (TriggerNext r) = is_number r
is_well_formed (Cancel t k force) = is_word t && is_number k
is_well_formed (Feedback feedback) = is_device_feedback feedback
is_well_formed (CancelFeedback feedback) = is_device_feedback feedback

abbrev pub IsWellFormed : Command → Type 0
IsWellFormed c = is_well_formed c ≡ true
