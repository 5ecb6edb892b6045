-- The names of other modules that the proofs here cite, passed on from one place. Declares nothing.
pub use Rattle.std.proofs.Common.{◌≡◌, ℕ, zero, suc, ◌+◌, ◌-◌, ◌*◌, ◌/◌, ◌%◌, ◌^◌, ◌<◌, ◌≤◌, min, Bool, true, false, cond, not, ◌&&◌, ◌||◌, ◌≢◌, ◌⊎◌, List, []}
pub use Rattle.std.proofs.Common.{◌∷◌, ◌++◌, map, reverse, length, get_or, take, drop, set, ℤ, pos, negsuc, IfNone, if◌then◌else◌, nat_eq, nat_lt, nat_le, ◌==◌}
pub use Rattle.std.proofs.Common.{slice_get, slice_index, Some, None, Ok, string_bytes, codes, All, filter, Option, IsPermutation, find, filter_map, nat_cmp}
pub use Rattle.std.proofs.Common.{Ordering, Less, Equal, sym, refl, ap, ◌∙◌, subst, ap₂, inl, inr, append_assoc, append-nil, arith, length-append, rules}
pub use Rattle.std.proofs.lemmas.Bool.{and_parts, cases_Bool, cases_eq, false≢true, le-leb, or_cases, or_parts, true≢false}
pub use Rattle.std.proofs.lemmas.Bool.Decides.{nat_tests}
pub use Rattle.std.proofs.lemmas.Grind.{common_steps, div_ceil_times, reverse_onto}
pub use Rattle.std.proofs.lemmas.Int.{ints}
pub use Rattle.std.proofs.lemmas.List.{drop-append-le, drop-map, get_or_past, length-drop, length-map, map-append, take-append-le, take-map, take_all}
pub use Rattle.std.proofs.lemmas.List.Elements.{All-append, All-nil, Contains-get_or, filter-append}
pub use Rattle.std.proofs.lemmas.List.Folds.{list_all-append, list_any-append}
pub use Rattle.std.proofs.lemmas.List.Sorted.{Contains-permutation, IsNonDecreasingBy-from_all_adjacent, IsPermutation-append_left, IsPermutation-append_right}
pub use Rattle.std.proofs.lemmas.List.Sorted.{IsPermutation-map, IsPermutation-middle, IsPermutation-refl, IsPermutation-reverse, IsPermutation-sym}
pub use Rattle.std.proofs.lemmas.List.Sorted.{IsPermutation-trans, length_permutation, ranks_by, sorted_far, sum_by-IsPermutation}
pub use Rattle.std.proofs.lemmas.Str.{IsUtf8-append, IsUtf8-from_ascii, IsUtf8-from_is_utf8, IsUtf8-nil, is_utf8-from_IsUtf8}
pub use Rattle.std.specs.List.{AllByRecursion, AllZip, flat_map, last_or, list_all, list_any, range_with_len, zip}
pub use Rattle.std.specs.Option.{is_none, is_some, option_map, option_or, option_to_list}
pub use Rattle.std.specs.Ordering.{is_eq, is_lt}
pub use Rattle.std.specs.Str.{IsUtf8, bytes_eq, is_utf8}
pub use Rattle.sqlite.proofs.Callers.{one_permutation}
pub use Rattle.sqlite.specs.Collation.TheVariants.{Binary}
pub use Rattle.sqlite.specs.Command.{Command}
pub use Rattle.sqlite.specs.Command.TheVariants.{Delete, Insert, InsertOr, Select, Update}
pub use Rattle.sqlite.specs.Effect.{Database, IsDatabase, Reads as Shows}
pub use Rattle.sqlite.specs.Kind.TheVariants.{Integer}
pub use Rattle.sqlite.specs.Program.{overlay}
pub use Rattle.sqlite.specs.Query.{IsAnswer, Output, Query, counted, end, inner, output_cmp, page}
pub use Rattle.sqlite.specs.Schema.{Schema}
pub use Rattle.sqlite.specs.Source.TheVariants.{Values, Query as Queried}
pub use Rattle.sqlite.specs.State.{State, Writes}
pub use Rattle.sqlite.specs.Table.{Table}
pub use Rattle.sqlite.specs.Term.{Term, col, eval_all, lit, op2}
pub use Rattle.sqlite.specs.Tree.{Trees}
pub use Rattle.sqlite_keyed.proofs.ListLemmas.{all-slice_get, all_of, filter_all, first_taken, map-map, map_same, none_counted}
pub use Rattle.sqlite_keyed.proofs.SortLemmas.{sorted_unique}
pub use Rattle.sqlite_resolve.specs.Given.{key_at}
pub use Rattle.sqlite_rules.proofs.ListLemmas.{all_from, all_has, contains_had, fails_has, has_contained, has_either, has_filtered, has_kept, has_left}
pub use Rattle.sqlite_rules.proofs.ListLemmas.{has_right}
pub use Rattle.sqlite_rules.specs.Cast.{cast, cast_all, cast_row}
pub use Rattle.sqlite_rules.specs.Edit.{Applies, edit_of, next_rowid, with_rowid}
pub use Rattle.sqlite_rules.specs.Lists.{Has}
pub use Rattle.sqlite_schema.specs.Rules.{agree, are_present, are_typed, is_of}
pub use Rattle.sqlite_sql.proofs.QueryLemmas.{output_cmp_total}
pub use Rattle.sqlite_sql.specs.Ops.{from_truth, is_null, is_true}
pub use Rattle.sqlite_sql.specs.declared.ops.BinaryOp.TheVariants.{Compare}
pub use Rattle.sqlite_sql.specs.declared.ops.CompareOp.TheVariants.{Eq, Ge, Gt, Le, Lt}
pub use Rattle.sqlite_trees.specs.Tree.{IsAscending, has_rowid, put_row, rowid, without_rowid}
pub use Rattle.sqlite_value.proofs.OrderLemmas.{then-Equal, value_cmp-Int, value_cmp-Null, value_cmp-Text, value_cmp-apart, value_cmp_total}
pub use Rattle.sqlite_value.specs.Keys.{plain}
pub use Rattle.sqlite_value.specs.Order.{Row, column, value_cmp}
pub use Rattle.sqlite_value.specs.declared.value.Value.{Value}
pub use Rattle.sqlite_value.specs.declared.value.Value.TheVariants.{Blob, Int, Null, Text}
pub use Rattle.rollout_model.proofs.RuleLemmas.{spelled_is_utf8}
pub use Rattle.rollout_model.specs.Limits.{limits}
pub use Rattle.rollout_model.specs.Rules.{are_details, kept_if, is_byte, is_detail, is_digest, is_filename, is_number, is_text, is_text_letter}
pub use Rattle.rollout_model.specs.Rules.{is_value}
pub use Rattle.rollout_model.specs.declared.group_rule.GroupRule.{GroupRule}
pub use Rattle.rollout_model.specs.declared.rollout.Offer.{Offer}
pub use Rattle.rollout_machine.proofs.Imports.{AllAbove, IsSorted, above_more, not_above, sorted_with}
pub use Rattle.rollout_machine.proofs.TargetTies.{same_sym, same_true}
pub use Rattle.rollout_machine.specs.ByteStrings.{bytes_below, contains_word, item_numbered, same_bytes, with_word, without_word}
pub use Rattle.rollout_machine.specs.Commands.{Attribute, Bytes, ModuleLabel, RolloutPlan, SetLabel, TargetRow}
pub use Rattle.rollout_machine.specs.Groups.{holds_position}
pub use Rattle.rollout_machine.specs.Kinds.{TargetOffer, offer_to}
pub use Rattle.rollout_machine.specs.Objects.{artifacts_shown, modules_of_set}
pub use Rattle.rollout_machine.specs.RecordSteps.{change_target, new_target, put_target}
pub use Rattle.rollout_machine.specs.Records.{ArtifactRecord, Records, artifacts}
pub use Rattle.rollout_machine.specs.Reports.{Reported, bearing, entries_in}
pub use Rattle.rollout_machine.specs.Targets.{Target, with_attribute}
pub use Rattle.rollout_machine.specs.Verdicts.{is_named_by_set, tags_of, target_of}
pub use Rattle.rollout_machine.specs.declared.bounds.Bounds.{Bounds}
pub use Rattle.rollout_machine.specs.declared.outcome.Outcome.{Outcome}
pub use Rattle.rollout_machine.specs.declared.records.ActionRecord.{ActionRecord}
pub use Rattle.rollout_machine.specs.declared.records.GroupRecord.{GroupRecord}
pub use Rattle.rollout_machine.specs.declared.records.RolloutRecord.{RolloutRecord}
pub use Rattle.rollout_machine.specs.GroupOffers.{OffersById, group_offers, lesser, member_of, offers_from, put_offer, put_offers}
pub use Rattle.sql_calls.proofs.Finding.{ShowsFirst}
pub use Rattle.sql_calls.proofs.Inserts.{Inserted, given_rows, inserts}
pub use Rattle.sql_calls.proofs.KeyedRows.{IsBlind, changed, found_id, held_added, held_changed, held_seen, next_is, on_content}
pub use Rattle.sql_calls.proofs.KeyedTables.{adds_row, changes_key, drops, is_among, keys_apart, none_passes, one_written, only_one, reads_key}
pub use Rattle.sql_calls.proofs.KeyedTables.{reads_risen, short, written}
pub use Rattle.sql_calls.proofs.NumberedRows.{cast_int, cast_null, put_next}
pub use Rattle.sql_calls.proofs.NumberedTables.{at_number, filter_numbered, has_number, last_number, last_of, last_query, numbered_in_order, row_of, sets_at}
pub use Rattle.sql_calls.proofs.Selects.{IsOrdered, by, ordered_rows, passes, shown_in, shown_of, simple, simple_rows}
pub use Rattle.sql_calls.proofs.Updates.{Updated, deletes, updates}
pub use Rattle.sql_calls.proofs.UpsertsFrom.{PutsEach, each_keeps, uncollated, upserts_from}
pub use Rattle.sql_calls.proofs.Columns.{Rise, by_column}
pub use Rattle.sql_calls.specs.Keyed.{AreIn, IsHeldBy, rows_from}
pub use Rattle.sql_calls.specs.private.Means.{Means}
pub use Rattle.sql_front.specs.Stands.{Stands}
pub use Rattle.desk_records.proofs.RowWords.{file_of, module_rows, names_of, shown_rows, words_of}
pub use Rattle.desk_records.specs.Actions.{Tally, action_row, actor_of, entries_of, entry_row, history_of, lines_of, told_entry}
pub use Rattle.desk_records.specs.Artifacts.{AddsPiece, and_piece, artifact_filed, artifact_row, is_same_artifact, piece_numbered, piece_row}
pub use Rattle.desk_records.specs.Artifacts.{piece_rows_from, pieces_in, pieces_of_artifact, told_of, with_artifact}
pub use Rattle.desk_records.specs.Codes.{approval_code, flag, outcome_code}
pub use Rattle.desk_records.specs.Columns.{has_filter}
pub use Rattle.desk_records.specs.FeedbackNumbers.{borne_at, number_row, number_rows, numbers_from, numbers_numbered, told_number}
pub use Rattle.desk_records.specs.FoundPieces.{ArePieces, lies_at}
pub use Rattle.desk_records.specs.Holds.{AreRowsOf, HoldsLedger, HoldsRecords, IsHeld, Ledger, Offered, Ordered, Unordered, content_of, desk_row, ledger_of}
pub use Rattle.desk_records.specs.Holds.{module_row}
pub use Rattle.desk_records.specs.LedgerSteps.{AddsActions, AddsEntry, AddsGroup, AddsMembers, AddsNumber, AddsRollout, AddsRule, OffersGroup, SetsAction}
pub use Rattle.desk_records.specs.LedgerSteps.{SetsGroup, SetsRollout, action_turned, and_entry, and_group, and_members, group_counted, bare_rollout}
pub use Rattle.desk_records.specs.LedgerSteps.{and_actions, cut_group, new_for, scheduled, turned, with_actions, with_groups, with_numbers, with_rollouts}
pub use Rattle.desk_records.specs.LedgerSteps.{in_place_of, reoffered, with_rules}
pub use Rattle.desk_records.specs.Listings.{AreBroken, AreRead, AreSaid, IsLastNumber, IsOnly, has_at, has_text_at, is_number_of, is_text_of}
pub use Rattle.desk_records.specs.private.ModuleRow.{fault_at}
pub use Rattle.desk_records.specs.Modules.{IsLastRow, is_same, with_module}
pub use Rattle.desk_records.specs.Offers.{HoldsOffers, is_to, offer_row}
pub use Rattle.desk_records.specs.Parts.{listed_parts, part_row, parts_from, parts_numbered, parts_of}
pub use Rattle.desk_records.specs.RolloutRow.{actions_for, actions_of, ended_for, listed_where, stored_action}
pub use Rattle.desk_records.specs.Rollouts.{group_row, groups_from, groups_of, is_called, member_row, members_from, members_of, numbered_from, rollout_row}
pub use Rattle.desk_records.specs.Rollouts.{rule_numbered, rule_row, rules_from, rules_numbered, that_reach, told_group, told_rollout, told_rule}
pub use Rattle.desk_records.specs.Schema.{Actions, Artifacts, Desk, Feedbacks, Groups, Members, Modules, Numbers, Offers, Pieces, Place, Rollouts, Rules}
pub use Rattle.desk_records.specs.Schema.{SetModules, Sets, TargetAttributes, TargetTags, Targets, action_table, group_table, name_of, offer_table, places}
pub use Rattle.desk_records.specs.Schema.{rollout_table, table_at, table_by, target_attribute_table, target_table, target_tag_table}
pub use Rattle.desk_records.specs.Sets.{AddsSetModule, and_module, is_same_set, place_row, place_rows_from, set_named, set_row, with_set}
pub use Rattle.desk_records.specs.TableRows.{IsPiece}
pub use Rattle.desk_records.specs.Tables.{HoldsTables, Tables}
pub use Rattle.desk_records.specs.Targets.{AddsAttribute, AddsTag, AddsTarget, SetsAttribute, are_sorted, attribute_rows, attributed, attributes_of, ids_of}
pub use Rattle.desk_records.specs.Targets.{in_byte_order, is_sorted, keys_of, renamed, tag_rows, tagged, target_row, untagged, with_changed, with_target}
pub use Rattle.desk_records.specs.Versions.{newest, version_number, places_at}
pub use Rattle.desk_records.specs.declared.number_row.PlacedNumber.{PlacedNumber}
pub use Rattle.std.proofs.Math.Bool.{and-true, and_assoc, not-not}
pub use Rattle.sql_front.proofs.Found.{same_some}
pub use Rattle.sql_calls.proofs.Counts.{count_query}
pub use Rattle.std.proofs.lemmas.Option.{slice_get-map}
pub use Rattle.rollout_model.specs.declared.approval.Approval.{Approval}
pub use Rattle.sqlite.specs.Rowids.TheVariants.{Chosen}
pub use Rattle.sqlite.specs.Values.{or_null}
pub use Rattle.desk_records.proofs.WrittenRows.{shown_offer, shown_stored_action, shown_listed_action, shown_group, shown_last_number}
pub use Rattle.rollout_machine.proofs.Words.{added_artifacts}
