-- What is known of each text. The check lists it (src/lib.rt), so a call of a statement finds that of its text by itself.
use Rattle.desk_store.proofs.Common.{ℕ, List, [], ◌∷◌, HoldsTables, HoldsLedger, KnowsQuery, KnowsWrite, count_actions_is, count_groups_is}
use Rattle.desk_store.proofs.Common.{count_members_is, count_targets_is, drop_offer_is, drop_target_tag_is, find_artifact_is, find_module_is, find_rollout_is}
use Rattle.desk_store.proofs.Common.{find_set_is, get_action_is, get_artifact_is, get_desk_is, get_group_is, get_module_is, get_offer_is, get_piece_is}
use Rattle.desk_store.proofs.Common.{get_rollout_is, get_rule_is, get_set_is, get_target_is, group_and_next_is, holding_group_is, last_action_is}
use Rattle.desk_store.proofs.Common.{last_artifact_is, last_ended_is, last_module_is, last_number_is, last_rollout_is, last_set_is, list_actions_is}
use Rattle.desk_store.proofs.Common.{list_all_artifacts_is, list_artifacts_is, list_entries_is, list_groups_is, list_members_is, list_numbers_is}
use Rattle.desk_store.proofs.Common.{list_offers_is, list_places_is, list_rules_is, list_set_modules_is, list_action_numbers_is, list_target_actions_is}
use Rattle.desk_store.proofs.Common.{list_target_attributes_is}
use Rattle.desk_store.proofs.Common.{list_target_tags_is, module_locked_is, put_artifact_is, put_feedback_is, put_group_is}
use Rattle.desk_store.proofs.Common.{put_member_is, put_members_is, put_module_is, put_number_is, put_piece_is, put_rollout_is, put_rule_is, put_set_is}
use Rattle.desk_store.proofs.Common.{put_set_module_is}
use Rattle.desk_store.proofs.Common.{put_target_attribute_is, put_target_is, put_target_tag_is, set_action_is, set_group_is, set_offer_is, set_rollout_is}
use Rattle.desk_store.proofs.Common.{set_target_attribute_is, set_target_is}
use Rattle.desk_records.proofs.TargetMeaning.{list_all_targets_is, list_attributes_between_is, list_tag_between_is, list_tags_between_is}
use Rattle.desk_records.proofs.TargetMeaning.{list_target_ids_is, list_targets_between_is}
use Rattle.desk_records.proofs.ActionMeaning.{count_actions_takes, get_action_takes, get_offer_takes, last_action_takes, last_ended_takes, last_number_takes}
use Rattle.desk_records.proofs.ActionMeaning.{list_action_numbers_takes, list_actions_takes, list_entries_takes, list_numbers_takes, list_offers_takes}
use Rattle.desk_records.proofs.ActionMeaning.{list_target_actions_takes}
use Rattle.desk_records.proofs.ArtifactMeaning.{find_artifact_takes, get_artifact_takes, get_piece_takes, last_artifact_takes, list_all_artifacts_takes}
use Rattle.desk_records.proofs.ArtifactMeaning.{list_artifacts_takes}
use Rattle.desk_records.proofs.Meaning.{find_module_takes, get_desk_takes, get_module_takes, last_module_takes}
use Rattle.desk_records.proofs.RolloutMeaning.{count_groups_takes, count_members_takes, find_rollout_takes, get_group_takes, get_rollout_takes}
use Rattle.desk_records.proofs.RolloutMeaning.{get_rule_takes, group_and_next_takes, holding_group_takes, last_rollout_takes, list_groups_takes}
use Rattle.desk_records.proofs.RolloutMeaning.{list_members_takes, list_places_takes, list_rules_takes}
use Rattle.desk_records.proofs.SetMeaning.{find_set_takes, get_set_takes, last_set_takes, list_set_modules_takes, module_locked_takes}
use Rattle.desk_records.proofs.TargetMeaning.{count_targets_takes, get_target_takes, list_all_targets_takes, list_attributes_between_takes}
use Rattle.desk_records.proofs.TargetMeaning.{list_tag_between_takes, list_tags_between_takes, list_target_attributes_takes, list_target_ids_takes}
use Rattle.desk_records.proofs.TargetMeaning.{list_target_tags_takes, list_targets_between_takes}
use Rattle.desk_store.proofs.Known.{asked, counted}
use Rattle.desk_store.proofs.WriteCalls.{puts, changes, drops}
use Rattle.desk_store.proofs.NextOfferCalls.{next_asked}
use Rattle.desk_store.proofs.GroupOfferCalls.{knows_put_group_offers}
use Rattle.desk_store.proofs.MemberActionCalls.{knows_put_actions}

module _ {Text : Type 0} (Known : Text → Type 0) where
  abbrev AreKnown : List ((text : Text) × Known text) → Type 0
  AreKnown [] = Unit {0}
  AreKnown (it ∷ texts) = Known it.0 × AreKnown texts

  are_known : (texts : List ((text : Text) × Known text)) → AreKnown texts
  are_known [] = tt
  are_known (it ∷ texts) = (it.1, are_known texts)

-- a text and how many parameters it takes
abbrev IsAsked : List ℕ × ℕ → Type 0
IsAsked text = KnowsQuery HoldsTables text.0 text.1

abbrev texts_asked : List ((text : List ℕ × ℕ) × IsAsked text)
texts_asked = ((_, _), asked find_artifact_is find_artifact_takes) ∷ ((_, _), asked find_module_is find_module_takes) ∷
    ((_, _), asked find_rollout_is find_rollout_takes) ∷ ((_, _), asked find_set_is find_set_takes) ∷ ((_, _), asked get_action_is get_action_takes) ∷
    ((_, _), asked get_artifact_is get_artifact_takes) ∷ ((_, _), asked get_desk_is get_desk_takes) ∷ ((_, _), asked get_group_is get_group_takes) ∷
    ((_, _), asked get_module_is get_module_takes) ∷ ((_, _), asked get_offer_is get_offer_takes) ∷ ((_, _), asked get_piece_is get_piece_takes) ∷
    ((_, _), asked get_rollout_is get_rollout_takes) ∷ ((_, _), asked get_rule_is get_rule_takes) ∷ ((_, _), asked get_set_is get_set_takes) ∷
    ((_, _), asked get_target_is get_target_takes) ∷ ((_, _), asked group_and_next_is group_and_next_takes) ∷
    ((_, _), asked holding_group_is holding_group_takes) ∷ ((_, _), asked last_action_is last_action_takes) ∷
    ((_, _), asked last_artifact_is last_artifact_takes) ∷ ((_, _), asked last_ended_is last_ended_takes) ∷
    ((_, _), asked last_module_is last_module_takes) ∷ ((_, _), asked last_number_is last_number_takes) ∷
    ((_, _), asked last_rollout_is last_rollout_takes) ∷ ((_, _), asked last_set_is last_set_takes) ∷ ((_, _), asked list_actions_is list_actions_takes) ∷
    ((_, _), asked list_all_artifacts_is list_all_artifacts_takes) ∷ ((_, _), asked list_all_targets_is list_all_targets_takes) ∷
    ((_, _), asked list_artifacts_is list_artifacts_takes) ∷ ((_, _), asked list_entries_is list_entries_takes) ∷
    ((_, _), asked list_groups_is list_groups_takes) ∷ ((_, _), asked list_members_is list_members_takes) ∷
    ((_, _), asked list_numbers_is list_numbers_takes) ∷ ((_, _), asked list_offers_is list_offers_takes) ∷
    ((_, _), asked list_places_is list_places_takes) ∷ ((_, _), asked list_rules_is list_rules_takes) ∷
    ((_, _), asked list_set_modules_is list_set_modules_takes) ∷ ((_, _), asked list_attributes_between_is list_attributes_between_takes) ∷
    ((_, _), asked list_tag_between_is list_tag_between_takes) ∷ ((_, _), asked list_tags_between_is list_tags_between_takes) ∷
    ((_, _), asked list_action_numbers_is list_action_numbers_takes) ∷ ((_, _), asked list_target_actions_is list_target_actions_takes) ∷
    ((_, _), asked list_target_attributes_is list_target_attributes_takes) ∷ ((_, _), asked list_target_ids_is list_target_ids_takes) ∷
    ((_, _), asked list_target_tags_is list_target_tags_takes) ∷ ((_, _), asked list_targets_between_is list_targets_between_takes) ∷
    ((_, _), asked module_locked_is module_locked_takes) ∷ ((_, _), next_asked) ∷ ((_, _), counted count_actions_is count_actions_takes) ∷
    ((_, _), counted count_groups_is count_groups_takes) ∷ ((_, _), counted count_members_is count_members_takes) ∷
    ((_, _), counted count_targets_is count_targets_takes) ∷ []

pub read : AreKnown IsAsked texts_asked
read = are_known IsAsked texts_asked

abbrev texts_written : List ((sql : List ℕ) × KnowsWrite HoldsLedger sql)
texts_written = (_, puts put_artifact_is) ∷ (_, puts put_feedback_is) ∷ (_, puts put_group_is) ∷ (_, puts put_member_is) ∷ (_, puts put_members_is) ∷
    (_, puts put_module_is) ∷ (_, puts put_number_is) ∷ (_, puts put_piece_is) ∷ (_, puts put_rollout_is) ∷ (_, puts put_rule_is) ∷ (_, puts put_set_is) ∷
    (_, puts put_set_module_is) ∷ (_, puts put_target_attribute_is) ∷ (_, puts put_target_is) ∷ (_, puts put_target_tag_is) ∷ (_, changes set_action_is) ∷
    (_, changes set_group_is) ∷ (_, changes set_offer_is) ∷ (_, changes set_rollout_is) ∷ (_, changes set_target_attribute_is) ∷ (_, changes set_target_is) ∷
    (_, drops drop_offer_is) ∷ (_, drops drop_target_tag_is) ∷ (_, knows_put_group_offers) ∷ (_, knows_put_actions) ∷ []

pub written : AreKnown (KnowsWrite HoldsLedger) texts_written
written = are_known (KnowsWrite HoldsLedger) texts_written
