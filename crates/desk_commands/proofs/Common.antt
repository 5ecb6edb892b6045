-- The names of other modules that the proofs here cite, passed on from one place. Declares nothing.
pub use Rattle.std.proofs.Common.{Bool, Err, IsErrAnd, List, MatchResult, None, Ok, Option, Result, Some, [], ap, append-nil, append_assoc, arith, cond, drop}
pub use Rattle.std.proofs.Common.{false, filter, get_or, inl, inr, is_some, length, map, min, nat_eq, nat_le, nat_lt, not, refl, rules, set, slice_get, subst}
pub use Rattle.std.proofs.Common.{suc, sym, take, true, zero, ℕ, ◌&&◌, ◌*◌, ◌++◌, ◌+◌, ◌-◌, ◌<◌, ◌^◌, ◌||◌, ◌∙◌, ◌∷◌, ◌≡◌, ◌≢◌, ◌≤◌}
pub use Rattle.std.proofs.Math.Bool.{and_assoc, and_comm, or-false, or-true}
pub use Rattle.std.proofs.lemmas.Bool.{and_parts, cases_Bool, eq-eqb, eqb-true, ltb-true, not-true, or_parts}
pub use Rattle.std.proofs.lemmas.Bool.Decides.{nat_tests}
pub use Rattle.std.proofs.lemmas.List.{length-append, length-drop, length-map, length-set, length-take, length-take-le, map-append, take-append-drop, take_all}
pub use Rattle.std.proofs.lemmas.List.{take_more}
pub use Rattle.std.specs.Cmp.Lexicographic.{pointwise}
pub use Rattle.std.specs.List.{find, last_or, list_all, list_any, zip}
pub use Rattle.std.specs.Option.{IsSomeAnd, is_none, ok_or, option_map}
pub use Rattle.sqlite.specs.State.{HasCleanDisk, State}
pub use Rattle.sqlite.specs.Store.{Ghosts}
pub use Rattle.sqlite_rules.specs.Lists.{Has}
pub use Rattle.rollout_model.specs.Rules.{are_distinct_words, is_digest, is_module_list, is_number, is_tag_list, is_text, is_word}
pub use Rattle.rollout_model.specs.declared.artifact.Artifact.{Artifact}
pub use Rattle.rollout_model.specs.declared.refusal.Refusal.{Refusal}
pub use Rattle.rollout_model.specs.declared.refusal.Refusal.TheVariants.{NotFound, Quota}
pub use Rattle.target_filter.specs.Grammar.{Tree}
pub use Rattle.target_filter.specs.Profile.{filter_of}
pub use Rattle.rollout_machine.proofs.Actions.{numbered_map}
pub use Rattle.rollout_machine.proofs.AtNumbers.{has_place, of_group, of_rollout, recorded}
pub use Rattle.rollout_machine.proofs.Imports.{AllAbove, IsSorted, above_more, below_apart, below_other, not_above, sorted_with_all, with_there}
pub use Rattle.rollout_machine.proofs.Induction.{invariant_of, never_started}
pub use Rattle.rollout_machine.proofs.Lists.{each_from_more, length_each, numbered_each}
pub use Rattle.rollout_machine.proofs.Main.{records_step}
pub use Rattle.rollout_machine.proofs.TargetTies.{has_sorted, has_with, has_without, same_pointwise, same_refl, same_sym, same_true}
pub use Rattle.rollout_machine.proofs.WithinLimits.{limits_hold}
pub use Rattle.rollout_machine.specs.Answers.{command_reply}
pub use Rattle.rollout_machine.specs.ByteStrings.{contains_word, item_numbered, same_bytes, sorted_words, with_word, with_words, without_word}
pub use Rattle.rollout_machine.specs.CommandList.{CommandList, ◌▸◌}
pub use Rattle.rollout_machine.specs.CommandRules.{IsWellFormed}
pub use Rattle.rollout_machine.specs.Commands.{AddArtifact, AddModule, AddSet, Approve, Attribute, Bytes, Cancel, CancelFeedback, Command, CreateRollout}
pub use Rattle.rollout_machine.specs.Commands.{Credential, Deny, Feedback, ModuleLabel, Pause, PutAttributes, PutTargets, Resume, RolloutPlan, SetLabel, Start}
pub use Rattle.rollout_machine.specs.Commands.{Tag, TargetRow, TriggerNext, Upload}
pub use Rattle.rollout_machine.specs.GroupRules.{GroupRule, rule_at, rules_of}
pub use Rattle.rollout_machine.specs.Offers.{Offer, first_offer, offer}
pub use Rattle.rollout_machine.specs.Ranges.{each_from}
pub use Rattle.rollout_machine.specs.RecordSteps.{begin_rollout, change_rollout, change_target, counted, last_started, new_action, new_actions, new_group}
pub use Rattle.rollout_machine.specs.RecordSteps.{new_rollout, new_target, put_target, put_targets, resumed, start_group, step_records, triggered, view_of}
pub use Rattle.rollout_machine.specs.Records.{ArtifactRecord, Records, action_in, artifact_from, group_in, records, rollout_in}
pub use Rattle.rollout_machine.specs.Replies.{ArtifactAdded, Done}
pub use Rattle.rollout_machine.specs.Reports.{HistoryEntry, Reported, against, entries_in, same_entry, standing_of}
pub use Rattle.rollout_machine.specs.Rollouts.{Rollout, chosen, last_of, rollouts, size_of}
pub use Rattle.rollout_machine.specs.StateWords.{RolloutWord, group_holding, group_number_of, group_numbered, has_started, is_for}
pub use Rattle.rollout_machine.specs.StateWords.{rollout_word}
pub use Rattle.rollout_machine.specs.Targets.{Target, with_attribute, with_attributes}
pub use Rattle.rollout_machine.specs.Validity.{IsValid}
pub use Rattle.rollout_machine.specs.Verdicts.{check, is_named_by_set, notes_of, tags_of, target_of, wrong_digest}
pub use Rattle.rollout_machine.specs.Views.{reply_of}
pub use Rattle.rollout_machine.specs.declared.bounds.Bounds.{Bounds}
pub use Rattle.rollout_machine.specs.declared.outcome.Outcome.{Outcome}
pub use Rattle.rollout_machine.specs.declared.outcome.Outcome.TheVariants.{Bad, Gone, Good}
pub use Rattle.rollout_machine.specs.declared.records.ActionRecord.{ActionRecord}
pub use Rattle.rollout_machine.specs.declared.records.GroupRecord.{GroupRecord}
pub use Rattle.rollout_machine.specs.declared.records.RolloutRecord.{RolloutRecord}
pub use Rattle.rollout_machine.specs.declared.standing.Standing.{Standing}
pub use Rattle.rollout_machine.specs.GroupOffers.{GroupStarts, acted, actor, group_offers, offers_before_start, put_offers, with_actor}
pub use Rattle.campaign_core.proofs.SoundLemmas.{records_are_sound}
pub use Rattle.campaign_core.specs.OwnGroups.{effects_by, following, waits}
pub use Rattle.campaign_core.specs.RolloutChecks.{AreSound, BothOrNone, ChangesAction, Decides, DecidesAs, IsActionView, IsCancelView, IsDeviceAction}
pub use Rattle.campaign_core.specs.RolloutChecks.{IsFeedbackView, IsPlanView, IsStandingView, IsViewOf, JudgesCancel, of_device, MayChangeAction, action_for}
pub use Rattle.campaign_core.specs.RolloutChecks.{action_with, approval_at, cancel_refusal, change_by, change_if_fresh, change_numbered, device_action}
pub use Rattle.campaign_core.specs.RolloutChecks.{ended_by, is_fresh, moved_by, only_if, outcome_forced, plan_refusal, rollout_with, says_fresh}
pub use Rattle.campaign_core.specs.declared.own_group.Following.{Following}
pub use Rattle.campaign_core.specs.declared.rollout_checks.RolloutChange.{RolloutChange}
pub use Rattle.campaign_core.specs.declared.rollout_checks.RolloutCommandView.{RolloutCommandView}
pub use Rattle.campaign_core.specs.declared.rollout_checks.actions.ActionChange.{ActionChange}
pub use Rattle.campaign_core.specs.declared.rollout_checks.actions.ActionChange.TheVariants.{Ends, StaysOpen}
pub use Rattle.sql_calls.proofs.Composing.{Then, both_found, finds_as, found_held, found_then_makes, known, makes_as, makes_nothing, makes_then, makes_three}
pub use Rattle.sql_calls.specs.Standing.{Finds, Makes, Sees, Wears}
pub use Rattle.sql_calls.specs.declared.fault.Fault.{Fault}
pub use Rattle.desk_records.proofs.ByteOrder.{sorted_from}
pub use Rattle.desk_records.proofs.HeldCounts.{at_place}
pub use Rattle.desk_records.specs.Actions.{Tally, actor_of, history_of, tally_of}
pub use Rattle.desk_records.specs.FeedbackNumbers.{last_number, numbers_from, numbers_numbered, numbers_of}
pub use Rattle.desk_records.specs.Holds.{HoldsLedger, Ledger, ledger_of}
pub use Rattle.desk_records.specs.LedgerSteps.{AddsEntry, AddsGroup, AddsMembers, AddsNumber, AddsRule, SetsAction, SetsGroup, and_entry}
pub use Rattle.desk_records.specs.LedgerSteps.{cut_group, scheduled, set_numbered, turned, with_actions, with_groups, with_numbers, with_rollouts}
pub use Rattle.desk_records.specs.LedgerSteps.{in_place_of, reoffered, with_rules}
pub use Rattle.desk_records.specs.NextOffers.{any_starts, is_next, next_offer, next_offer_from, starts_at}
pub use Rattle.desk_records.specs.Parts.{parts_of}
pub use Rattle.desk_records.specs.RolloutRow.{stored_action, stored_rollout, told_plan}
pub use Rattle.desk_records.specs.Rollouts.{groups_of, members_of, numbered_from, rule_numbered}
pub use Rattle.desk_records.specs.TargetRow.{stored_target}
pub use Rattle.desk_records.specs.Targets.{AddsAttribute, AddsTag, AddsTarget, SetsAttribute, are_sorted, attributed, attributes_of, ids_of, in_byte_order}
pub use Rattle.desk_records.specs.Targets.{keys_of, renamed, tagged, untagged, with_changed, with_target}
pub use Rattle.desk_records.specs.declared.number_row.PlacedNumber.{PlacedNumber}
pub use Rattle.desk_records.specs.declared.rollout_row.StoredAction.{StoredAction}
pub use Rattle.desk_records.specs.declared.rollout_row.StoredRollout.{StoredRollout}
pub use Rattle.desk_records.specs.declared.target_row.StoredTarget.{StoredTarget}
pub use Rattle.desk_store.proofs.LedgersOfRecords.{ledger_found, ledger_made, same_ledger}
pub use Rattle.desk_store.specs.Changing.{FindsIn, MakesIn, MakesLedger, StaysIn, seen_in}
pub use Rattle.desk_store.specs.Failing.{FailsGiven, AreActionsNumbered, ReadableAs, WritesIn}
pub use Rattle.desk_store.specs.Breaking.{HasReason}
pub use Rattle.desk_store.specs.GroupPairs.{group_and_next}
pub use Rattle.desk_store.specs.Readable.{IsReadable}
pub use Rattle.sql_calls.specs.declared.calls.Calls.{Calls}
pub use Rattle.desk_store.specs.declared.groups.GroupAndNext.{GroupAndNext}
pub use Rattle.desk_reads.proofs.HistoryKept.{details_kept}
pub use Rattle.desk_reads.proofs.RuleLemmas.{rule_there, rules_there, said_of, same_number}
pub use Rattle.desk_reads.specs.AtLists.{AreOfList, FailsAtListsIn, IsOfList}
pub use Rattle.desk_reads.specs.Rollouts.{IsSeenOf}
pub use Rattle.desk_reads.specs.Targets.{target_listed}
pub use Rattle.desk_reads.specs.declared.rollouts.SeenRollout.{SeenRollout}
pub use Rattle.desk_commands.specs.private.ActionSteps.{Acts, TellsAction, WritesFeedback, canceling_by, outcome_by, stays_offered}
pub use Rattle.desk_commands.specs.private.Additions.{AddsArtifact, AddsContents, AddsModules, AddsWhole, LacksModule}
pub use Rattle.desk_commands.specs.private.Attributes.{GivesAttribute, GivesAttributes, attributed_with, has_attribute, keys_after}
pub use Rattle.desk_commands.specs.private.Counts.{HasRoom}
pub use Rattle.desk_commands.specs.private.Creations.{CreatesRollout, IsChosen, IsWordOf, and_rollout, in_part, shown_new}
pub use Rattle.desk_commands.specs.private.Endings.{FollowsChange, FollowsSo, outcomes_in, with_outcome, with_rollout}
pub use Rattle.desk_commands.specs.Failures.{FailsWriting, IsActionOf, IsLastOf, IsSeenFrom, IsSeenIn, Leads}
pub use Rattle.desk_commands.specs.Failures.{TakesRow, TakesRows, TakesSteps}
pub use Rattle.desk_commands.specs.private.GroupStarts.{StartsAndOffers, StartsIf, started, with_group}
pub use Rattle.desk_commands.specs.private.GroupViews.{EndsBeyond, view_by}
pub use Rattle.desk_commands.specs.private.Imports.{AddsTags, DropsTags, HasCounted, IsTooMany, PutsAll, PutsOver, PutsRow, PutsRows, Renames, Retags, lacking}
pub use Rattle.desk_commands.specs.private.Imports.{retagged, tagged_with, untagged_from, with_row, without_words}
pub use Rattle.desk_commands.specs.private.Offering.{MayReoffer, Reoffers}
pub use Rattle.desk_commands.specs.private.SeenActions.{IsSeen, MaySee, SeesFeedback, SeesIn, SeesTarget, action_seen, action_view_seen, cancel_view_seen}
pub use Rattle.desk_commands.specs.private.SeenActions.{device_action_seen, only_of, only_started, seen_if}
pub use Rattle.desk_commands.specs.private.SeenReports.{StandsAgainst, StandsAmong, StandsAt, asked, more_reads, reads_for, with_number}
pub use Rattle.desk_commands.specs.private.Standings.{GoesOn, IsSeenAt, WritesSaid, approval_after, gone_by, pause_left, paused_after, command_said}
pub use Rattle.desk_commands.specs.private.Standings.{starts_by}
pub use Rattle.desk_commands.specs.private.Starts.{StartsWhole}
pub use Rattle.desk_records.specs.LedgerSteps.{and_actions, new_for}
pub use Rattle.desk_commands.specs.private.Telling.{CountsNumbers, TellsReports, WritesNumber, WritesTold, entries_by, if_numbered, notes_by, numbers_by}
pub use Rattle.desk_commands.specs.private.Telling.{tally_by}
pub use Rattle.desk_commands.specs.private.Telling.{with_reports}
pub use Rattle.desk_commands.specs.declared.seen_actions.SeenAction.{SeenAction}
pub use Rattle.desk_commands.specs.declared.seen_actions.SeenFeedback.{SeenFeedback}
pub use Rattle.desk_commands.specs.declared.telling.Told.{Told}
pub use Rattle.desk_store.proofs.ActionCalls.{kept_to}
pub use Rattle.rollout_machine.proofs.Words.{added_artifact, group_is_started, is_note, is_started_in, number_of_group, rollouts_in}
pub use Rattle.rollout_machine.specs.Groupings.{bounds_by}
