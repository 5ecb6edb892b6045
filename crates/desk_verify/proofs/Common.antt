-- The names of other modules that the proofs here cite, passed on from one place. Declares nothing.
pub use Rattle.std.proofs.Common.{Bool, Err, List, None, Ok, Option, Result, Some, Vec, [], add-one, ap, append-nil, ap₂, arith, count_by, drop, false, filter}
pub use Rattle.std.proofs.Common.{get_or, inl, inr, is_eq, is_none, length, map, min, nat_eq, nat_le, nat_lt, not, pos, refl, rules, slice_get, slice_index_or}
pub use Rattle.std.proofs.Common.{subst, suc, sym, take, true, true≢false, unwrap_or, vec_items, zero, zip, ℕ, ◌*◌, ◌++◌, ◌+◌, ◌-◌, ◌<◌, ◌^◌, ◌∙◌, ◌∷◌, ◌≡◌}
pub use Rattle.std.proofs.Common.{◌≤◌, ◌⊎◌}
pub use Rattle.std.proofs.lemmas.Bool.{and_from, and_parts, eqb-true, leb-true, not-false, not-true, or_left, or_right}
pub use Rattle.std.proofs.lemmas.Bool.Decides.{Decides-eqb, nat_tests}
pub use Rattle.std.proofs.lemmas.List.{length-append, length-drop, length-map, length-take}
pub use Rattle.std.proofs.lemmas.List.Elements.{All-contains}
pub use Rattle.std.proofs.lemmas.List.Sums.{length-filter}
pub use Rattle.std.proofs.lemmas.Result.{err_from_is_err_and}
pub use Rattle.std.proofs.lemmas.Slice.Eq.{slice_eq-Decides}
pub use Rattle.std.specs.Cmp.Lexicographic.{pointwise}
pub use Rattle.std.specs.List.{AllByRecursion, flat_map, list_all}
pub use Rattle.std.specs.Option.{is_some, option_to_list}
pub use Rattle.std.specs.declared.alloc.Global.{Global}
pub use Rattle.sqlite.specs.Effect.{Database}
pub use Rattle.sqlite.specs.State.{State}
pub use Rattle.sqlite_rules.proofs.ListLemmas.{all_from, all_has, contains_had, has_filtered, has_got, has_kept, has_right, some_from, some_has, test_from}
pub use Rattle.sqlite_rules.proofs.ListLemmas.{test_has}
pub use Rattle.sqlite_rules.specs.Lists.{Has}
pub use Rattle.sqlite_trees.specs.Tree.{has_rowid}
pub use Rattle.sqlite_value.specs.Order.{Row, column, value_cmp}
pub use Rattle.sqlite_value.specs.declared.value.Value.TheVariants.{Int, Null, Text}
pub use Rattle.rollout_model.specs.Groupings.{Grouping, define_each, is_grouping}
pub use Rattle.rollout_model.specs.Limits.{limits}
pub use Rattle.rollout_model.specs.Rules.{is_digest, is_feedback_number, is_number, is_percentage, is_word, kept_if}
pub use Rattle.rollout_model.specs.declared.rollout.Offer.{Offer}
pub use Rattle.artifact_pieces.specs.Pieces.{piece_count}
pub use Rattle.rollout_machine.proofs.GroupCounts.{groups_are_counted}
pub use Rattle.rollout_machine.proofs.Groupings.{each_rule, grouping_is_cut}
pub use Rattle.rollout_machine.proofs.Lists.{each_there, length_each, numbered_each}
pub use Rattle.rollout_machine.proofs.MemberActions.{IsOfMember, actions_follow_members}
pub use Rattle.rollout_machine.proofs.Offers.{offered_one}
pub use Rattle.rollout_machine.proofs.TargetTies.{same_refl, same_true}
pub use Rattle.rollout_machine.proofs.WithinLimits.{IsWithinLimits, each_created, limits_hold, made}
pub use Rattle.rollout_machine.specs.Actions.{history, outcome_said}
pub use Rattle.rollout_machine.specs.ByteStrings.{item_numbered}
pub use Rattle.rollout_machine.specs.CommandList.{CommandList, Make, ◌▸◌}
pub use Rattle.rollout_machine.specs.CommandRules.{IsWellFormed, is_device_feedback, is_plan}
pub use Rattle.rollout_machine.specs.Commands.{Attribute, Bytes, Command, CreateRollout, DeviceFeedback, RolloutPlan, SetLabel}
pub use Rattle.rollout_machine.specs.Counts.{is_outcome}
pub use Rattle.rollout_machine.specs.GroupCounts.{IsCountedGroup}
pub use Rattle.rollout_machine.specs.GroupRules.{GroupRule, rule_at, rules_of}
pub use Rattle.rollout_machine.specs.Groupings.{GroupDefinition, bounds_by, cut_by, last_by, leaves_empty}
pub use Rattle.rollout_machine.specs.Kinds.{TargetOffer, count_actions, offer_to}
pub use Rattle.rollout_machine.specs.Offers.{offer}
pub use Rattle.rollout_machine.specs.Records.{ArtifactRecord, Records, records}
pub use Rattle.rollout_machine.specs.Reports.{HistoryEntry, Reported, Said, reported_by}
pub use Rattle.rollout_machine.specs.StateWords.{has_started, member_at}
pub use Rattle.rollout_machine.specs.Validity.{IsValid}
pub use Rattle.rollout_machine.specs.declared.bounds.Bounds.{Bounds}
pub use Rattle.rollout_machine.specs.declared.outcome.Outcome.{Outcome}
pub use Rattle.rollout_machine.specs.declared.outcome.Outcome.TheVariants.{Bad, Gone, Good}
pub use Rattle.rollout_machine.specs.declared.records.ActionRecord.{ActionRecord}
pub use Rattle.rollout_machine.specs.declared.records.GroupRecord.{GroupRecord}
pub use Rattle.rollout_machine.specs.declared.records.RolloutRecord.{RolloutRecord}
pub use Rattle.sql_calls.proofs.Composing.{both_found, finds_as, found_then, known}
pub use Rattle.sql_calls.specs.Keyed.{IsHeldBy, rows_from}
pub use Rattle.sql_calls.specs.Standing.{Finds, Wears}
pub use Rattle.sql_calls.specs.declared.fault.Fault.{Fault}
pub use Rattle.sql_calls.specs.declared.fault.Fault.TheVariants.{Broken}
pub use Rattle.desk_records.proofs.HeldCounts.{at_place, has_place, held_passing, item_row, own_parts, part_among, place_within}
pub use Rattle.desk_records.proofs.HeldTables.{are_tables, held_rows, numbered, of_part, row_of, rows_of, wanted_of}
pub use Rattle.desk_records.proofs.Membership.{all_pass, each_passes, has_flat, has_mapped, map_has}
pub use Rattle.desk_records.proofs.NumberColumns.{has_own_number, is_at, is_in_range, is_number_in, is_small, number_in_good, number_in_is, number_in_least}
pub use Rattle.desk_records.proofs.NumberColumns.{number_is, one_number, small_is}
pub use Rattle.desk_records.proofs.PieceLists.{count_pieces, nth_piece, one_more, same_contents}
pub use Rattle.desk_records.proofs.WholeArtifacts.{IsWhole, KeepsRules, all_keep, all_whole, digest_is_one}
pub use Rattle.desk_records.specs.Actions.{Tally, action_row, actor_of, entries_of, entry_row, kind_code, tally_of, told_action, told_entry, word_code}
pub use Rattle.desk_records.specs.ArtifactRow.{stored}
pub use Rattle.desk_records.specs.Artifacts.{artifact_row, piece_numbered, piece_row, pieces_in}
pub use Rattle.desk_records.specs.Codes.{approval_code, approval_in, feedback_number_in, flag, flag_in, group_count_in, number_in, outcome_code, outcome_in}
pub use Rattle.desk_records.specs.Codes.{percentage_in, place_in}
pub use Rattle.desk_records.specs.Columns.{has_size}
pub use Rattle.desk_records.specs.EntryRow.{BreaksEntry, keeps_details, said_by}
pub use Rattle.desk_records.specs.FoundPieces.{ArePieces}
pub use Rattle.desk_records.specs.Holds.{HoldsRecords, IsHeld, ledger_of, module_row}
pub use Rattle.desk_records.specs.Listings.{AreBroken, AreSaid, FindsOne, HasNumber, IsLastNumber, IsOnly, has_at, has_text_at}
pub use Rattle.desk_records.specs.Offers.{HoldsOffers, is_to, offer_row}
pub use Rattle.desk_records.specs.Parts.{parts_from}
pub use Rattle.desk_records.specs.PlaceLists.{AreMembers, SaysMember, is_of}
pub use Rattle.desk_records.specs.ReadRows.{IsStoredRolloutRow, IsRuleRow, broken_group_column, columns_of_stored_action, columns_of_group, columns_of_offer}
pub use Rattle.desk_records.specs.RolloutRow.{stored_action, stored_rollout}
pub use Rattle.desk_records.specs.Rollouts.{group_row, member_row, members_from, rollout_row, rule_row, told_rollout, told_rule}
pub use Rattle.desk_records.specs.Schema.{Actions, Artifacts, Desk, Feedbacks, Groups, Members, Modules, Numbers, Offers, Pieces, Place, Rollouts, Rules}
pub use Rattle.desk_records.specs.Schema.{SetModules, Sets, TargetAttributes, TargetTags, Targets}
pub use Rattle.desk_records.specs.TableRows.{IsAction, IsEntry, IsGroup, IsMember, IsOffer, IsRollout}
pub use Rattle.desk_records.specs.Tables.{HoldsTables, Tables}
pub use Rattle.desk_records.specs.declared.checked_rows.OwnedOffer.{OwnedOffer}
pub use Rattle.desk_records.specs.declared.entry_row.SequencedEntry.{SequencedEntry}
pub use Rattle.desk_records.specs.declared.member_row.PlacedMember.{PlacedMember}
pub use Rattle.desk_records.specs.declared.number_row.PlacedNumber.{PlacedNumber}
pub use Rattle.desk_records.specs.declared.rollout_row.ListedAction.{ListedAction}
pub use Rattle.desk_records.specs.declared.rollout_row.StoredAction.{StoredAction}
pub use Rattle.desk_records.specs.declared.rollout_row.StoredRollout.{StoredRollout}
pub use Rattle.desk_records.specs.declared.table_columns.Column.{Column}
pub use Rattle.desk_store.proofs.BlameLemmas.{blamed, unread}
pub use Rattle.desk_store.specs.Blaming.{BlamesGiven, ReadsOf}
pub use Rattle.desk_store.specs.BrokenRows.{BreaksColumn}
pub use Rattle.desk_store.specs.Changing.{FindsTables, StaysIn, seen_in}
pub use Rattle.desk_store.specs.RawLists.{AreActions, AreOffers, ListsRows, SaysAction, SaysArtifact, SaysGroup, SaysNumber, SaysNumbered, SaysOffer}
pub use Rattle.desk_store.specs.RawLists.{SaysOfferOf, SaysRule, any_row}
pub use Rattle.desk_store.specs.Readable.{IsReadable}
pub use Rattle.desk_store.specs.RuleTables.{HasGroupCount, HasRule, HaveRules, definition_by, definitions_in, grouping_of, grouping_with}
pub use Rattle.desk_store.specs.Unreadable.{large_number, many_rows, missing_rollout, missing_rule, no_grouping, rise, twin_actions, twin_entries, twin_members}
pub use Rattle.desk_reads.proofs.ListMembers.{member_ids}
pub use Rattle.desk_reads.specs.Counted.{AreCounted}
pub use Rattle.desk_verify.specs.ActionChecks.{AreActionsInTurn, AreMembersInTurn, AreActionsWhole, FitsItsEntries, IsGiven, IsGivenFirst, ListsActions}
pub use Rattle.desk_verify.specs.ActionChecks.{PassesHistory, are_for, count_none, count_on, first_said, is_fit, is_for_member, numbers_rise, sequences_rise}
pub use Rattle.desk_verify.specs.Actions.{AgreesActions, AreInOrder, FitsEntries, EntryGivesOutcome, HasActions, HasMember, IsRightAction, IsStarted}
pub use Rattle.desk_verify.specs.Actions.{KeepsNumbers, PassesActions}
pub use Rattle.desk_verify.specs.Agreement.{AgreeBefore, Agrees, SettlesWhether, IsDamage, NamesFirst, Passes, Settles, checked}
pub use Rattle.desk_verify.specs.private.ArtifactChecks.{HashesPieces, IsHashed}
pub use Rattle.desk_verify.specs.Artifacts.{AgreesArtifacts, HasPieces}
pub use Rattle.desk_verify.specs.Checking.{ChecksGroups}
pub use Rattle.desk_verify.specs.private.Cuts.{are_bounds, are_right, counts_them, has_each, has_group_numbered, is_cut, is_right}
pub use Rattle.desk_verify.specs.private.Following.{follow}
pub use Rattle.desk_verify.specs.GroupChecks.{HasEach, HasOnlyRule, HaveOnlyRules, IsCutOnlyBy}
pub use Rattle.desk_verify.specs.Groups.{AgreesGroups, HasGroup, IsCutBy, IsInRollout, IsRightGroup, ended_in, has_ended, member_count}
pub use Rattle.desk_verify.specs.private.Judged.{within}
pub use Rattle.desk_verify.specs.Members.{AgreesMembers, HasPlace, IsInPlace}
pub use Rattle.desk_verify.specs.OfferChecks.{Fits, IsOfferedIfDue, IsRight, IsRowOffered, holds_started, is_due, is_started_at}
pub use Rattle.desk_verify.specs.Offers.{AgreesOffers, HasNumberedAction, IsDue, IsInStartedGroup, IsOffered, IsRightOffer}
pub use Rattle.desk_verify.specs.private.RolloutChecks.{AreAllChecked, AreChecked, HasRollout, IsAtRollout, IsChecked, IsUpTo, JudgesAll, JudgesOne}
pub use Rattle.desk_verify.specs.Rollouts.{IsThere}
pub use Rattle.desk_verify.specs.declared.damage.CheckedTable.TheVariants.{Artifact}
pub use Rattle.rollout_machine.proofs.Words.{is_feedback_number_or_none}
