-- The names of other modules that the proofs here cite, passed on from one place. Declares nothing.
pub use Rattle.std.proofs.Common.{◌≡◌, ℕ, zero, suc, ◌+◌, ◌-◌, ◌^◌, ◌<◌, ◌≤◌, min, Bool, true, false, not, ◌⊎◌, List, [], ◌∷◌, ◌++◌, map, length, get_or, take}
pub use Rattle.std.proofs.Common.{drop, pos, negsuc, IfSome, IfOk, IfErr, slice_get, Some, None, Ok, vec_items, codes, Option, Result, Vec, option_map}
pub use Rattle.std.proofs.Common.{filter_map, sym, refl, ap, ◌∙◌, subst, ap₂, inl, inr, append-nil, arith, rules, take-append-drop}
pub use Rattle.std.proofs.lemmas.Bool.{and_parts, le-leb, lt-leb}
pub use Rattle.std.proofs.lemmas.Bool.Decides.{nat_tests}
pub use Rattle.std.proofs.lemmas.Option.{slice_get-map, slice_get_read}
pub use Rattle.std.specs.List.{cons_option, list_all}
pub use Rattle.std.specs.Option.{is_none, is_some, option_or}
pub use Rattle.std.specs.declared.alloc.Global.{Global}
pub use Rattle.sqlite.specs.Command.{Command}
pub use Rattle.sqlite.specs.Command.TheVariants.{Select}
pub use Rattle.sqlite.specs.Effect.{Database}
pub use Rattle.sqlite.specs.Held.{state}
pub use Rattle.sqlite.specs.Query.{Output, Query, output_cmp, page}
pub use Rattle.sqlite.specs.State.{HasCleanDisk, IsUnchanged, State}
pub use Rattle.sqlite.specs.Store.{Ghosts}
pub use Rattle.sqlite.specs.Term.{lit}
pub use Rattle.sqlite_rules.proofs.ListLemmas.{has_at, has_filtered, test_has}
pub use Rattle.sqlite_rules.specs.Lists.{Has}
pub use Rattle.sqlite_value.specs.Order.{Row, column}
pub use Rattle.sqlite_value.specs.declared.value.Value.{Value}
pub use Rattle.sqlite_value.specs.declared.value.Value.TheVariants.{Blob, Int, Null, Text}
pub use Rattle.rollout_model.specs.Rules.{is_number, is_word}
pub use Rattle.rollout_model.specs.declared.rollout.Offer.{Offer}
pub use Rattle.rollout_machine.specs.ByteStrings.{item_numbered}
pub use Rattle.rollout_machine.specs.Commands.{Bytes}
pub use Rattle.rollout_machine.specs.Records.{group_in, rollout_in, Records}
pub use Rattle.rollout_machine.specs.Reports.{HistoryEntry, Said}
pub use Rattle.rollout_machine.specs.StateWords.{group_holding}
pub use Rattle.rollout_machine.specs.declared.records.GroupRecord.{GroupRecord}
pub use Rattle.sql_calls.proofs.Counts.{count_rows}
pub use Rattle.sql_calls.proofs.Finding.{ShowsFirst, ask_finds, first_finds, run_makes}
pub use Rattle.sql_calls.proofs.Selects.{by, ordered_rows, passes, shown_in, shown_of, simple}
pub use Rattle.sql_calls.specs.Calls.{AsksFew, AsksText, RunsText, TakesFirst, errors_in, few_of}
pub use Rattle.sql_calls.specs.private.Means.{Known, Knows, KnowsQuery, KnowsWrite, Takes, writes_rows}
pub use Rattle.sql_calls.specs.Standing.{Commits, Finds, GivesUp, Makes, Sees, Wears}
pub use Rattle.sql_calls.specs.declared.fault.Fault.{Fault}
pub use Rattle.sql_calls.specs.declared.fault.Fault.TheVariants.{Broken}
pub use Rattle.desk_records.proofs.ActionMeaning.{action_columns, count_actions_is, drop_offer_is, entry_columns, get_action_is, get_offer_is, last_action_is}
pub use Rattle.desk_records.proofs.ActionMeaning.{last_ended_is, last_number_is, list_actions_is, list_entries_is, list_numbers_is, list_offers_is}
pub use Rattle.desk_records.proofs.ActionMeaning.{list_action_numbers_is, list_target_actions_is, listed_columns, next_offer_is, next_offer_query}
pub use Rattle.desk_records.proofs.ActionMeaning.{offer_columns, owned_columns}
pub use Rattle.desk_records.proofs.ActionMeaning.{put_feedback_is, put_number_is, set_action_is, set_offer_is}
pub use Rattle.desk_records.proofs.AnyRows.{are_said, broken, count_shown, from_shown, is_only, none_passes, rise}
pub use Rattle.desk_records.proofs.ArtifactMeaning.{all_columns, find_artifact_is, get_artifact_is, get_piece_is, last_artifact_is, list_all_artifacts_is}
pub use Rattle.desk_records.proofs.ArtifactMeaning.{list_artifacts_is, put_artifact_is, put_piece_is}
pub use Rattle.desk_records.proofs.GroupOfferWrites.{offers_group, offers_keyed}
pub use Rattle.desk_records.proofs.MemberActionWrites.{adds_actions}
pub use Rattle.desk_records.proofs.MemberWrites.{adds_member, adds_sixteen}
pub use Rattle.desk_records.proofs.LedgerWrites.{adds_rollout, sets_action, sets_rollout}
pub use Rattle.desk_records.proofs.NumberColumns.{is_number_in, number_in_good, number_in_is, number_is}
pub use Rattle.desk_records.proofs.OfferWrites.{drops_offer, sets_offer}
pub use Rattle.desk_records.proofs.PartWrites.{adds_entry, adds_group, adds_number, adds_rule, sets_group}
pub use Rattle.desk_records.proofs.RolloutMeaning.{count_groups_is, count_members_is, find_rollout_is, get_group_is, get_rollout_is, get_rule_is}
pub use Rattle.desk_records.proofs.RolloutMeaning.{group_and_next_is, group_columns, holding_group_is, last_rollout_is, list_groups_is, list_members_is}
pub use Rattle.desk_records.proofs.RolloutMeaning.{list_places_is, list_rules_is, of_rollout, placed_columns, places_query, put_group_is, put_member_is}
pub use Rattle.desk_records.proofs.RolloutMeaning.{put_members_is}
pub use Rattle.desk_records.proofs.RolloutMeaning.{put_rollout_is, put_rule_is, set_group_is, set_rollout_is}
pub use Rattle.desk_records.proofs.RolloutRecords.{gets_group_and_next, gets_rollout, lasts_rollout}
pub use Rattle.desk_records.specs.Actions.{history_of, kind_code, lines_of, told_entry, word_code}
pub use Rattle.desk_records.specs.Artifacts.{piece_numbered}
pub use Rattle.desk_records.specs.CheckedRows.{IsCheckedArtifactRow, IsOwnedOfferRow, are_entries, counted_of, is_too_long, is_wide, keeps_action_rules}
pub use Rattle.desk_records.specs.CheckedRows.{keeps_artifact_rules, keeps_offer_rules}
pub use Rattle.desk_records.specs.Codes.{first_broken, flag_in, number_in, outcome_in}
pub use Rattle.desk_records.specs.EntryRow.{IsEntryRow, IsSequencedRow, keeps_details, said_in}
pub use Rattle.desk_records.specs.Holds.{HoldsLedger, HoldsRecords, Ledger, ledger_of}
pub use Rattle.desk_records.specs.Listings.{AreRead, AreSaid, FindsOne, IsSaid, has_text_at}
pub use Rattle.desk_records.specs.Modules.{IsLastRow}
pub use Rattle.desk_records.specs.RolloutRow.{stored_rollout}
pub use Rattle.desk_records.specs.Rollouts.{groups_of, that_reach}
pub use Rattle.desk_records.specs.Schema.{Actions, Artifacts, Feedbacks, Groups, Members, Numbers, Offers, Place, Rollouts, Targets}
pub use Rattle.desk_records.specs.Tables.{HoldsTables, Tables}
pub use Rattle.desk_records.specs.TargetRow.{listed_target}
pub use Rattle.desk_records.specs.declared.action_texts.TheConstants.{LIST_ENTRIES, NEXT_OFFER, PUT_ACTIONS, PUT_GROUP_OFFERS}
pub use Rattle.desk_records.specs.declared.artifact_row.StoredArtifact.{StoredArtifact}
pub use Rattle.desk_records.specs.declared.artifact_texts.TheConstants.{GET_PIECE}
pub use Rattle.desk_records.specs.declared.rollout_row.ListedAction.{ListedAction}
pub use Rattle.desk_records.specs.declared.rollout_row.StoredAction.{StoredAction}
pub use Rattle.desk_records.specs.declared.rollout_row.StoredRollout.{StoredRollout}
pub use Rattle.desk_records.specs.declared.rollout_texts.TheConstants.{GET_ROLLOUT, GROUP_AND_NEXT, LAST_ROLLOUT, LIST_PLACES}
pub use Rattle.desk_records.specs.declared.target_texts.TheConstants.{COUNT_TARGETS}
pub use Rattle.desk_records.specs.declared.texts.TheConstants.{GET_DESK}
pub use Rattle.desk_store.specs.Blaming.{BlamesGiven, HasUnreadable, Reading, ReadsOf}
pub use Rattle.desk_store.specs.Changing.{FindsTables, seen_in, FindsLedger}
pub use Rattle.desk_store.specs.GroupPairs.{group_and_next}
pub use Rattle.desk_store.specs.private.Rows.{AreReadAs, BreaksRule, HasBroken, HasNoNumber, IfRowsBroken, IsApproval, IsCount, IsReadAs, IsBroken}
pub use Rattle.desk_store.specs.Unreadable.{IsUnreadable, large_number, many_rows}
pub use Rattle.sql_calls.specs.declared.calls.Calls.{Calls}
pub use Rattle.desk_store.specs.declared.groups.GroupAndNext.{GroupAndNext}
pub use Rattle.desk_records.proofs.Meaning.{find_module_is, get_desk_is, get_module_is, last_module_is, put_module_is}
pub use Rattle.desk_records.proofs.SetMeaning.{find_set_is, get_set_is, last_set_is, list_set_modules_is, module_locked_is, put_set_is, put_set_module_is}
pub use Rattle.desk_records.proofs.TargetMeaning.{count_targets_is, drop_target_tag_is, get_target_is, list_target_attributes_is, list_target_tags_is}
pub use Rattle.desk_records.proofs.TargetMeaning.{put_target_attribute_is, put_target_is, put_target_tag_is, set_target_attribute_is}
pub use Rattle.desk_records.proofs.TargetMeaning.{set_target_is}
pub use Rattle.desk_records.proofs.MeaningWords.{counted_at, Asks, Counts}
pub use Rattle.desk_records.specs.Columns.{StoredBytes, has_size, has_word, small_number}
pub use Rattle.desk_records.specs.ReadRows.{IsStoredActionRow, IsGroupRow, IsOfferRow, IsStoredRolloutRow, IsStoredArtifactRow, broken_stored_action_column}
pub use Rattle.desk_records.specs.ReadRows.{broken_attribute_column, broken_group_column, broken_listed_action_column, broken_offer_column}
pub use Rattle.desk_records.proofs.WrittenRows.{shown_group}
pub use Rattle.desk_records.specs.ReadRows.{columns_of_stored_action}
pub use Rattle.desk_records.proofs.WrittenRows.{shown_offer}
pub use Rattle.desk_records.specs.declared.table_columns.Column.{Column}
pub use Rattle.desk_store.specs.Breaking.{NeverBreaks}
pub use Rattle.desk_records.proofs.HeldTables.{rows_of}
pub use Rattle.desk_records.proofs.Membership.{has_mapped}
pub use Rattle.desk_store.specs.Failing.{FailsIn}
pub use Rattle.desk_store.specs.Readable.{IsReadable}
pub use Rattle.desk_store.specs.BrokenRows.{BreaksColumn}
pub use Rattle.desk_records.specs.NextOffers.{next_offer}
pub use Rattle.desk_records.proofs.NextOfferRecords.{gets_next_offer}
pub use Rattle.std.proofs.lemmas.List.{length-map}
pub use Rattle.rollout_machine.specs.declared.records.ActionRecord.{ActionRecord}
pub use Rattle.rollout_machine.specs.Targets.{Target}
pub use Rattle.desk_records.proofs.DeskRecords.{gets_desk, told_desk}
pub use Rattle.rollout_machine.proofs.Words.{number_of_group}
