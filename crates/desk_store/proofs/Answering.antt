-- What the answers here cite, passed on from one place. Declares nothing.
pub use Rattle.desk_store.proofs.Common.{AreReadAs, BreaksRule, HoldsLedger, HoldsRecords, HoldsTables, Int, None, Ok, Some, TakesFirst, [], adds_actions}
pub use Rattle.desk_store.proofs.Common.{adds_entry, adds_group, adds_number, adds_rollout, adds_rule, append-nil, arith, broken_attribute_column}
pub use Rattle.desk_store.proofs.Common.{codes, count_actions_is, count_groups_is, count_members_is, counted_of, drop_offer_is, drop_target_tag_is, drops_offer}
pub use Rattle.desk_store.proofs.Common.{filter_map, find_artifact_is, find_module_is, find_rollout_is, find_set_is, get_action_is, get_artifact_is}
pub use Rattle.desk_store.proofs.Common.{get_group_is, get_module_is, get_offer_is, get_piece_is, get_rollout_is, get_rule_is, get_set_is, get_target_is}
pub use Rattle.desk_store.proofs.Common.{group_and_next_is, holding_group_is, inl, inr, is_number, is_word, last_action_is, last_artifact_is, last_ended_is}
pub use Rattle.desk_store.proofs.Common.{last_module_is, last_number_is, last_rollout_is, last_set_is, list_actions_is, list_all_artifacts_is}
pub use Rattle.desk_store.proofs.Common.{list_artifacts_is, list_entries_is, list_groups_is, list_members_is, list_numbers_is, list_offers_is, list_places_is}
pub use Rattle.desk_store.proofs.Common.{list_action_numbers_is, list_rules_is, list_set_modules_is, list_target_actions_is, list_target_attributes_is}
pub use Rattle.desk_store.proofs.Common.{list_target_tags_is, ListedAction, ℕ}
pub use Rattle.desk_store.proofs.Common.{module_locked_is, nat_tests, offers_group, pos, put_artifact_is, put_feedback_is}
pub use Rattle.desk_store.proofs.Common.{put_group_is, put_member_is, put_members_is, put_module_is, put_number_is, put_piece_is, put_rollout_is, put_rule_is}
pub use Rattle.desk_store.proofs.Common.{put_set_is}
pub use Rattle.desk_store.proofs.Common.{put_set_module_is, put_target_attribute_is, put_target_is, put_target_tag_is, refl, rules, set_action_is, set_group_is}
pub use Rattle.desk_store.proofs.Common.{set_offer_is, set_rollout_is, set_target_attribute_is, set_target_is, sets_action, sets_group, sets_offer}
pub use Rattle.desk_store.proofs.Common.{sets_rollout, slice_get_read, state, StoredBytes, subst, suc, sym, take, true, ◌-◌, ◌∙◌, ◌∷◌, ◌≡◌}
pub use Rattle.desk_store.proofs.ActionCalls.{entries_read, entry_read}
pub use Rattle.desk_store.proofs.ArtifactCalls.{piece_read}
pub use Rattle.desk_store.proofs.BlameLemmas.{unread}
pub use Rattle.desk_store.proofs.EndLemmas.{commits_as_store, errors_as_store, gives_up_as_store}
pub use Rattle.desk_store.proofs.FailLemmas.{all_fails, first_fails, first_tells_only}
pub use Rattle.desk_store.proofs.GroupOfferCalls.{knows_put_group_offers}
pub use Rattle.desk_store.proofs.MemberActionCalls.{knows_put_actions}
pub use Rattle.desk_store.proofs.MemberCalls.{pushed}
pub use Rattle.desk_store.proofs.Common.{adds_member, adds_sixteen}
pub use Rattle.desk_store.proofs.Known.{asked_in_ledgers, in_ledgers, known}
pub use Rattle.desk_store.proofs.LedgerReads.{both_mapped}
pub use Rattle.desk_store.proofs.NextOfferCalls.{next_offer_read}
pub use Rattle.desk_store.proofs.RawBlames.{all_blamed, count_blamed, last_blamed, long_action, no_offer, place_count_blamed, two_blamed}
pub use Rattle.desk_store.proofs.RawCalls.{count_read}
pub use Rattle.desk_store.proofs.RawLists.{finds_first, finds_one, said_if_found, says_numbered, says_offer_of, says_stored, all_of, each_in_order, each_read}
pub use Rattle.desk_store.proofs.RawLists.{judges_action, judges_artifact, judges_entry, judges_group, judges_number, kept_action, kept_artifact, kept_group}
pub use Rattle.desk_store.proofs.RawLists.{kept_offer, rows_in_order, rows_read, says_action, says_artifact, says_entry, says_group, says_offer}
pub use Rattle.desk_store.proofs.ReadLemmas.{all_at, first_at, few_asks, all_read, all_tell, first_tells, pick_more, read_mapped, reads_all, reads_last}
pub use Rattle.desk_store.proofs.ReadLemmas.{reads_one, reads_whether, told_broken}
pub use Rattle.desk_store.proofs.RolloutCalls.{approval_read, group_and_next_read, never_three_groups, rollout_read, last_read}
pub use Rattle.desk_store.proofs.RowFails.{approval_fails, count_fails, last_tells_only, last_fails, next_fails, no_action, no_key}
pub use Rattle.desk_store.proofs.SoundQueries.{ask_is_told, asked_in_readings, few_is_told, first_is_told, never_breaks, never_breaks_first}
pub use Rattle.desk_store.proofs.StayLemmas.{put_advances, read_advances}
pub use Rattle.desk_store.proofs.TargetCalls.{rows_listed}
pub use Rattle.desk_store.proofs.WriteCalls.{changes, drops, puts, writes}
pub use Rattle.desk_records.proofs.ActionMeaning.{entry_columns, listed_columns, of_action, of_rollout}
pub use Rattle.desk_records.proofs.ActionRecords.{gets_action, gets_offer, lasts_action, lasts_ended, lists_action_numbers, lists_actions, lists_target_actions}
pub use Rattle.desk_records.proofs.ActionRows.{counts_actions}
pub use Rattle.desk_records.proofs.Common.{map-map}
pub use Rattle.desk_records.proofs.AnyRows.{number_order}
pub use Rattle.desk_records.proofs.ArtifactRecords.{adds_artifact, adds_piece, finds_artifact, gets_artifact, lasts_artifact, lists_artifacts}
pub use Rattle.desk_records.proofs.AttributeRecords.{adds_attribute, lists_target_attributes, sets_attribute}
pub use Rattle.desk_records.proofs.KeptColumns.{same_int, same_text}
pub use Rattle.desk_records.proofs.Modules.{adds_module, finds_module, gets_module, lasts_module}
pub use Rattle.desk_records.proofs.NumberColumns.{number_in_is, passes_rowid}
pub use Rattle.desk_records.proofs.NumberRecords.{lasts_number, lists_numbers}
pub use Rattle.desk_records.proofs.PieceRows.{lists_pieces}
pub use Rattle.desk_records.proofs.PlaceRows.{counts_places, lists_places}
pub use Rattle.desk_records.proofs.RolloutRecords.{finds_rollout, gets_group, gets_rule, holds_group, lists_groups, lists_members, lists_rules}
pub use Rattle.desk_records.proofs.RolloutRows.{lasts_any}
pub use Rattle.desk_records.proofs.RowsTold.{one_artifact, one_attribute, one_group, one_last_number, one_listed_action, one_listed_target, one_module_label}
pub use Rattle.desk_records.proofs.RowsTold.{one_number, one_offer, one_rule, one_set_name, one_stored_action, one_stored_artifact, one_stored_target}
pub use Rattle.desk_records.proofs.RuleRows.{judges_rule}
pub use Rattle.desk_records.proofs.SetRecords.{adds_set, adds_set_module, finds_lock, finds_set, gets_set, lasts_set, lists_set_modules}
pub use Rattle.desk_records.proofs.TargetRecords.{adds_tag, adds_target, drops_tag, gets_target, lists_target_tags, sets_target}
pub use Rattle.desk_records.proofs.TextColumns.{passes_text}
pub use Rattle.desk_records.specs.ArtifactRow.{stored}
pub use Rattle.desk_records.specs.ReadRows.{IsArtifactRow, IsAttributeRow}
pub use Rattle.desk_records.proofs.WrittenRows.{shown_attribute, shown_set_name, shown_stored_action, shown_stored_artifact}
pub use Rattle.desk_records.proofs.WrittenRows.{shown_stored_target}
pub use Rattle.desk_records.specs.RolloutRow.{stored_action}
pub use Rattle.desk_records.specs.Schema.{Artifacts, Rollouts}
pub use Rattle.desk_records.specs.SetRow.{called}
pub use Rattle.desk_records.specs.TableRows.{IsRollout}
pub use Rattle.desk_records.specs.TargetRow.{stored_target}
pub use Rattle.desk_store.specs.RawLists.{SaysListed, SaysNumber, SaysRule, SaysStored}
pub use Rattle.desk_store.specs.Unreadable.{broken_entry, broken_number, broken_piece, broken_rollout, broken_rule, large_count, two_actions, two_offers}
pub use Rattle.desk_store.specs.Unreadable.{two_rollouts, two_rules}
pub use Rattle.sql_calls.proofs.Ends.{begin_is, commit_is, rollback_is}
pub use Rattle.sql_calls.proofs.FrameEnds.{begins, commits, fails_to_begin, gives_up}
pub use Rattle.sql_calls.proofs.Framing.{ask_frames, few_frames, first_frames, run_frames}
pub use Rattle.sqlite.specs.Term.{col}
pub use Rattle.sqlite_trees.specs.Tree.{has_rowid}
pub use Rattle.sqlite_value.specs.Order.{column}
pub use Rattle.std.proofs.Common.{map, option_map, vec_items}
