-- The names of other modules that the proofs here cite, passed on from one place. Declares nothing.
pub use Rattle.std.proofs.Common.{All, Bool, Err, IfErr, IfOk, List, None, Ok, Option, Result, Some, Vec, [], add-one, ap, append-nil, append_assoc, arith}
pub use Rattle.std.proofs.Common.{cond, drop, false, filter, find, get_or, inl, inr, is_none, length, map, min, nat_eq, nat_le, nat_lt, not, refl, rules}
pub use Rattle.std.proofs.Common.{slice_get, subst, suc, sym, take, true, zero, ℕ, ◌%◌, ◌&&◌, ◌*◌, ◌++◌, ◌+◌, ◌-◌, ◌/◌, ◌<◌, ◌^◌, ◌∙◌, ◌∷◌, ◌≡◌, ◌≢◌, ◌≤◌, ◌⊎◌}
pub use Rattle.std.proofs.Math.Seq.{take-nil}
pub use Rattle.std.proofs.lemmas.Bool.{and_parts, cases_lt, false≢true, leb-true}
pub use Rattle.std.proofs.lemmas.Bool.Decides.{nat_tests}
pub use Rattle.std.proofs.lemmas.Grind.{div_ceil_times, flat_map-append}
pub use Rattle.std.proofs.lemmas.List.{drop-append-le, drop-drop, drop-map, drop-take, drop_all, length-append, length-drop, length-map, length-take}
pub use Rattle.std.proofs.lemmas.List.{length-take-le, map-append, nil_from_length, take-append-le, take-map, take-take, take_all, take_more}
pub use Rattle.std.specs.List.{flat_map, list_all, list_any, zip}
pub use Rattle.std.specs.Option.{IsSome, is_some, option_map, unwrap_or}
pub use Rattle.std.specs.Result.{IsErrAnd}
pub use Rattle.std.specs.declared.alloc.Global.{Global}
pub use Rattle.sqlite_rules.specs.Lists.{Has}
pub use Rattle.rollout_model.specs.Limits.{limits}
pub use Rattle.rollout_model.specs.Rules.{is_byte, is_contents, is_module_list, kept_if, is_number}
pub use Rattle.rollout_model.specs.declared.refusal.Refusal.TheVariants.{NotFound}
pub use Rattle.rollout_model.specs.declared.shown_target.ShownTarget.{ShownTarget}
pub use Rattle.target_filter.specs.Grammar.{Tree}
pub use Rattle.target_filter.specs.Profile.{filter_of}
pub use Rattle.artifact_pieces.specs.Pieces.{piece_at, piece_bytes, piece_count, pieces_of}
pub use Rattle.rollout_machine.proofs.TargetTies.{same_pointwise, same_refl, same_sym, same_true}
pub use Rattle.rollout_machine.proofs.WithinLimits.{limits_hold}
pub use Rattle.rollout_machine.specs.Answers.{action_of_target, artifact_named, if_found, is_offer_of, modules_offered, query_reply}
pub use Rattle.rollout_machine.specs.Answers.{targets_of}
pub use Rattle.rollout_machine.specs.ByteStrings.{contains_word, item_numbered, same_bytes}
pub use Rattle.rollout_machine.specs.CommandList.{CommandList, Make, ◌▸◌}
pub use Rattle.rollout_machine.specs.Commands.{Bytes, Command, CreateRollout, Credential, ModuleLabel, SetLabel}
pub use Rattle.rollout_machine.specs.Filters.{matches}
pub use Rattle.rollout_machine.specs.GroupRules.{GroupRule, rule_at, rules_of}
pub use Rattle.rollout_machine.specs.Objects.{action_shown, actions_of_target, actions_where, artifacts_shown, chunks_of, entry_shown}
pub use Rattle.rollout_machine.specs.Objects.{group_shown, members_in, page_of, report_of, rollout_shown, target_shown}
pub use Rattle.rollout_machine.specs.Offers.{Offer, first_offer, offer}
pub use Rattle.rollout_machine.specs.Records.{ArtifactRecord, Records, artifacts, group_in, records}
pub use Rattle.rollout_machine.specs.Replies.{ActionShown, ActionsShown, ActionsTableShown, Artifact, ArtifactsShown, ContentsShown, GroupShown, GroupsShown}
pub use Rattle.rollout_machine.specs.Replies.{HistoryShown, ModulesShown, PageOf, Refused, ReportShown, RolloutsShown, SetsShown, ShownAction, ShownGroup}
pub use Rattle.rollout_machine.specs.Replies.{ShownRollout, TargetsShown, ShownEntry}
pub use Rattle.rollout_machine.specs.Reports.{HistoryEntry, Reported, entries_in}
pub use Rattle.rollout_machine.specs.Requests.{Download, Page, ShowTargets}
pub use Rattle.rollout_machine.specs.Rollouts.{Rollout, chosen, created, rollouts, size_in, size_of}
pub use Rattle.rollout_machine.specs.StateWords.{InError, InSync, Pending, TargetWord, Unknown, group_holding, group_numbered, has_started}
pub use Rattle.rollout_machine.specs.StateWords.{is_for, target_word}
pub use Rattle.rollout_machine.specs.Targets.{Target, target_ids, target_in}
pub use Rattle.rollout_machine.specs.Validity.{IsValid}
pub use Rattle.rollout_machine.specs.Verdicts.{target_of}
pub use Rattle.rollout_machine.specs.Views.{chunk, listed, reply_of, shown_target}
pub use Rattle.rollout_machine.specs.declared.records.ActionRecord.{ActionRecord}
pub use Rattle.rollout_machine.specs.declared.records.GroupRecord.{GroupRecord}
pub use Rattle.rollout_machine.specs.declared.records.RolloutRecord.{RolloutRecord}
pub use Rattle.campaign_core.specs.RolloutChecks.{BothOrNone}
pub use Rattle.sql_calls.proofs.Composing.{both_found, finds_as, found_held, found_if, found_then, known}
pub use Rattle.sql_calls.specs.declared.fault.Fault.{Fault}
pub use Rattle.sql_calls.specs.declared.fault.Fault.TheVariants.{Broken}
pub use Rattle.desk_records.specs.Actions.{Tally, actor_of, history_of, tally_of}
pub use Rattle.desk_records.specs.Artifacts.{pieces_of_artifact}
pub use Rattle.desk_records.specs.Holds.{HoldsLedger, Ledger, ledger_of}
pub use Rattle.desk_records.specs.Parts.{parts_of}
pub use Rattle.desk_records.specs.RolloutRow.{actions_for, actions_of, listed_where, stored_action, stored_rollout}
pub use Rattle.desk_records.specs.Rollouts.{groups_of, members_of, numbered_from, rule_numbered, rules_numbered}
pub use Rattle.desk_records.specs.TargetRow.{listed_target, stored_target}
pub use Rattle.desk_records.specs.declared.rollout_row.ListedAction.{ListedAction}
pub use Rattle.desk_records.specs.declared.rollout_row.StoredAction.{StoredAction}
pub use Rattle.desk_records.specs.declared.target_row.ListedTarget.{ListedTarget}
pub use Rattle.desk_store.proofs.LedgersOfRecords.{ledger_found}
pub use Rattle.desk_store.specs.Changing.{FindsIn, StaysIn, seen_in}
pub use Rattle.desk_store.specs.Readable.{IsReadable}
pub use Rattle.desk_store.specs.private.Rows.{IfRowsBroken}
pub use Rattle.desk_reads.proofs.ListLemmas.{group_within, groups_are, made}
pub use Rattle.desk_reads.proofs.ListedTargets.{all_given, part_seen}
pub use Rattle.desk_reads.proofs.RuleLemmas.{rule_is, rule_there, rules_there, said_of, same_number}
pub use Rattle.desk_reads.specs.AtLists.{AreOfList, FailsAtListsIn, FailsWith, FindsAtListsIn, IsOfList, IsOfListWith}
pub use Rattle.desk_reads.specs.Rollouts.{IsSeenOf}
pub use Rattle.desk_reads.specs.Targets.{target_listed}
pub use Rattle.desk_reads.specs.declared.rollouts.SeenRollout.{SeenRollout}
pub use Rattle.desk_views.specs.private.Actions.{entry_by, listed_shown, number_at, reports_of, shown_among, shown_in, stored_in}
pub use Rattle.desk_views.specs.private.Contents.{contents_found}
pub use Rattle.desk_views.specs.Downloads.{downloadable, named, or_not_found}
pub use Rattle.desk_views.specs.private.Groups.{HasUnshown, IsGroupOf}
pub use Rattle.desk_views.specs.Sizes.{IsOfName}
pub use Rattle.desk_views.specs.private.TargetWords.{ending_of, has_begun, is_begun, last_ended}
pub use Rattle.desk_views.specs.Targets.{IsContentOf, matching_shown, worded}
pub use Rattle.desk_store.proofs.FailLemmas.{has_dropped, has_taken}
pub use Rattle.desk_store.proofs.ActionCalls.{kept_from, kept_to}
pub use Rattle.std.proofs.Math.Bool.{or-true}
pub use Rattle.rollout_machine.proofs.Words.{action_if, actions_of_rollout, added_artifacts, group_is_started, group_reply, groups_shown, rollouts_shown, seen}
pub use Rattle.rollout_machine.proofs.Words.{size_of_group, target_if, targets_matching, targets_shown, word_by_last}
pub use Rattle.rollout_machine.specs.StateWords.{started_actions_of}
pub use Rattle.rollout_machine.specs.Ranges.{numbered}
