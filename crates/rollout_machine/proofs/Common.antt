-- The names of other modules that the proofs here cite, passed on from one place. Declares nothing.
pub use Rattle.std.proofs.Common.{◌≡◌, ℕ, zero, suc, ◌+◌, ◌-◌, ◌*◌, ◌/◌, ◌%◌, ◌<◌, ◌≤◌, Bool, true, false, cond, not, ◌&&◌, ◌||◌, ◌≢◌, ◌⊎◌, List, [], ◌∷◌, ◌++◌}
pub use Rattle.std.proofs.Common.{map, length, get_or, take, drop, replicate, is_some, is_none, nat_eq, nat_lt, nat_le, slice_get, Some, None, codes, filter}
pub use Rattle.std.proofs.Common.{Option, sym, refl, ap, ◌∙◌, subst, ap₂, inl, inr, add-one, arith, rules}
pub use Rattle.std.proofs.Math.Bool.{and-false, and-true, or-false, or-true}
pub use Rattle.std.proofs.Math.Nat.{div-lt_iff_lt-mul, div-mul-le_self}
pub use Rattle.std.proofs.lemmas.Bool.{and_parts, cases_Bool, cases_eq, cases_lt, cases_order, eq-eqb, eqb-true, false≢true, le-leb, leb-false, leb-true}
pub use Rattle.std.proofs.lemmas.Bool.{lt-leb, lt-ltb, ltb-false, ltb-true, ne_eqb, not-false, not-true, or_parts}
pub use Rattle.std.proofs.lemmas.Bool.Decides.{nat_tests}
pub use Rattle.std.proofs.lemmas.List.{length-append, length-map}
pub use Rattle.std.proofs.lemmas.Nat.{le-div}
pub use Rattle.std.specs.List.{AllByRecursion, list_all, list_any}
pub use Rattle.std.specs.Option.{option_map, option_or, unwrap_or}
pub use Rattle.rollout_model.specs.declared.refusal.Refusal.{Refusal}
pub use Rattle.rollout_model.specs.declared.refusal.Refusal.TheVariants.{BadFilter, ClosedAction, Exists, Locked, NotFound, OldNumber, Quota, StoreFailed}
pub use Rattle.rollout_model.specs.declared.refusal.Refusal.TheVariants.{TooFewTargets, Unauthorized, WrongDigest, WrongState}
pub use Rattle.target_filter.specs.Grammar.{Tree}
pub use Rattle.target_filter.specs.Profile.{filter_of}
pub use Rattle.rollout_machine.specs.Actions.{ActionPlace, action_of, action_place, action_places, cancel_standing_said, cancel_stands, history}
pub use Rattle.rollout_machine.specs.Actions.{is_canceling, is_heard, is_on_action, new_places, outcome, outcome_given, outcome_of_cancel}
pub use Rattle.rollout_machine.specs.Actions.{outcome_of_deployment, outcome_said, reports}
pub use Rattle.rollout_machine.specs.Answers.{action_of_target, answer, artifact_named, artifact_of_module}
pub use Rattle.rollout_machine.specs.Answers.{command_reply, download, for_device, if_found, is_offer_of, modules_offered, query_reply}
pub use Rattle.rollout_machine.specs.Answers.{targets_reply}
pub use Rattle.rollout_machine.specs.ByteStrings.{bytes_below, contains_word, item_numbered, same_bytes, sorted_words, with_word, with_words}
pub use Rattle.rollout_machine.specs.ByteStrings.{without_word}
pub use Rattle.rollout_machine.specs.CommandList.{CommandList, Make, followed_by, ◌▸◌}
pub use Rattle.rollout_machine.specs.CommandRules.{IsWellFormed, is_plan, is_well_formed}
pub use Rattle.rollout_machine.specs.Commands.{AddArtifact, AddModule, AddSet, Approve, Attribute, Bad, Bytes, Cancel, CancelFeedback, CancelWord}
pub use Rattle.rollout_machine.specs.Commands.{CanceledCancel, ClosedCancel, Command, CreateRollout, Credential, Deny, DeploymentWord, DeviceFeedback, Failed}
pub use Rattle.rollout_machine.specs.Commands.{Feedback, Gone, Good, ModuleLabel, Noted, NotedCancel, Outcome, Pause, Proceeding, PutAttributes, PutTargets}
pub use Rattle.rollout_machine.specs.Commands.{Rejected, RejectedCancel, Resume, RolloutPlan, SetLabel, Start, Succeeded, Tag, TargetRow, TriggerNext, Untag}
pub use Rattle.rollout_machine.specs.Commands.{Upload}
pub use Rattle.rollout_machine.specs.Counts.{error_holds, is_outcome, reaches, success_holds, tally}
pub use Rattle.rollout_machine.specs.Effects.{FollowsResume, FollowsTrigger, GetsOutcome, HasSoundPlan, IsGroupView, IsInGroup, IsLast, IsView}
pub use Rattle.rollout_machine.specs.Effects.{OutcomesStarted, StartedOnly, feedback_pauses, good_after, last_with, next_if, starts_next}
pub use Rattle.rollout_machine.specs.Filters.{matches}
pub use Rattle.rollout_machine.specs.Groupings.{GroupDefinition, GroupingCovers, cut_by, leaves_empty, percentages}
pub use Rattle.rollout_machine.specs.Groups.{IsCut, cut, holds_position, last_position}
pub use Rattle.rollout_machine.specs.Meanings.{CancelingIsLast, EndsInCommand, FinalIsAll, FirstOutcome, FirstStartedIs, IsLeastOffer, IsOfferable}
pub use Rattle.rollout_machine.specs.Meanings.{LastIsCancel, LastRow, NeverNamed, NextIsStarted, NoResume, NoneGave, NoneSpeaks, NotNamed, NumbersActions}
pub use Rattle.rollout_machine.specs.Meanings.{NumbersDiffer, OfferIsLeast, OutcomeIsFirst, PauseBegins, PausedIs, RowIsLast, Says, SomePause, SpeaksOfCancel}
pub use Rattle.rollout_machine.specs.Meanings.{StartIsIn, StartedIs, TagsAreSaid, TargetsAreNamed, ValueIsLast, last_given, last_value, size_at, started_by}
pub use Rattle.rollout_machine.specs.Meanings.{started_sizes, value_of}
pub use Rattle.rollout_machine.specs.Objects.{modules_of_action}
pub use Rattle.rollout_machine.specs.Offers.{Offer, first_offer, offer}
pub use Rattle.rollout_machine.specs.Progress.{is_group_started, is_paused, is_rollout_started}
pub use Rattle.rollout_machine.specs.Progress.{next_started, pause_begins}
pub use Rattle.rollout_machine.specs.Ranges.{count_from, each_from, some_up_to}
pub use Rattle.rollout_machine.specs.RecordSteps.{act_on, action_after, begin_rollout, change_rollout, change_target, counted, group_view, is_item_number}
pub use Rattle.rollout_machine.specs.RecordSteps.{is_same_action, last_started, new_action, new_actions, new_group, new_rollout, new_target}
pub use Rattle.rollout_machine.specs.RecordSteps.{outcome_if_new, own_group, put_target, put_targets, resumed, rollout_after, rollouts_after_outcome}
pub use Rattle.rollout_machine.specs.RecordSteps.{start_group, step_action, step_records, triggered, view_from_group, view_of}
pub use Rattle.rollout_machine.specs.Records.{ActionRecord, Approval, ArtifactRecord, Denied, Given, GroupRecord, Records, RolloutRecord, Waiting, action_in}
pub use Rattle.rollout_machine.specs.Records.{approval_of, artifacts, decided, group_in, modules, needs_approval}
pub use Rattle.rollout_machine.specs.Records.{records, rollout_in, sets}
pub use Rattle.rollout_machine.specs.Repeats.{IsTraceless, RepeatsLeaveNoTrace, is_doubled, is_had, is_repeat, same_row, without_repeats}
pub use Rattle.rollout_machine.specs.Replies.{ActionShown, ActionsShown, ActionsTableShown, Artifact, ArtifactAdded, ArtifactShown, ArtifactsShown, CancelShown}
pub use Rattle.rollout_machine.specs.Replies.{ContentsShown, DeploymentShown, GroupShown, HistoryShown, Module, ModuleAdded, ModuleShown, ModulesShown}
pub use Rattle.rollout_machine.specs.Replies.{PollShown, Refused, Reply, ReportShown, RolloutsShown, SetAdded, ShownAction, ShownGroup, ShownTarget, TargetsPut}
pub use Rattle.rollout_machine.specs.Replies.{TargetsShown}
pub use Rattle.rollout_machine.specs.Reports.{Again, Fresh, HistoryEntry, Numbered, OfCancel, OfDeployment, Old, Reported, Standing, against, bearing}
pub use Rattle.rollout_machine.specs.Reports.{entries_in, is_again, reported, reported_by, same_entry, says_again, says_old}
pub use Rattle.rollout_machine.specs.Reports.{standing_of}
pub use Rattle.rollout_machine.specs.Requests.{Ask, Asked, Asks, Do, Download, Page, Poll, Query, Request, ShowAction, ShowActionsTable, ShowArtifact}
pub use Rattle.rollout_machine.specs.Requests.{ShowArtifacts, ShowCancel, ShowContents, ShowDeployment, ShowGroup, ShowGroupTargets, ShowGroups, ShowHistory}
pub use Rattle.rollout_machine.specs.Requests.{ShowModule, ShowModules, ShowReport, ShowRollout, ShowRollouts, ShowSet, ShowSets, ShowTarget, ShowTargetActions}
pub use Rattle.rollout_machine.specs.Requests.{ShowTargets}
pub use Rattle.rollout_machine.specs.Rollouts.{Rollout, bounds_in, chosen, created, rule_at, first_of, last_of, rollout_at, rollouts, size_in}
pub use Rattle.rollout_machine.specs.Rollouts.{size_of}
pub use Rattle.rollout_machine.specs.Splits.{FirstEmptyTells, LeavesNoneEmpty, SplitCovers, first_empty, first_empty_from, left_by, share, split_bounds_of}
pub use Rattle.rollout_machine.specs.Splits.{split_last}
pub use Rattle.rollout_machine.specs.StateWords.{ApprovalDenied, ErrorGroup, FinishedGroup, FinishedRollout, GroupWord, InError, PausedRollout, Pending}
pub use Rattle.rollout_machine.specs.StateWords.{ReadyGroup, RolloutWord, RunningAction, RunningGroup, RunningRollout, ScheduledAction, ScheduledGroup, Unknown}
pub use Rattle.rollout_machine.specs.StateWords.{WaitingForApproval, all_final, group_holding, group_numbered, group_word, has_started}
pub use Rattle.rollout_machine.specs.StateWords.{is_finished, is_for, member_at, rollout_word, target_word, word_from}
pub use Rattle.rollout_machine.specs.Targets.{Target, attributes_in, has_tag, import_rows_of, last_row_for, last_row_of, tag_in_row, tags_in}
pub use Rattle.rollout_machine.specs.Targets.{target_ids, target_in, targets, with_attribute, with_attributes}
pub use Rattle.rollout_machine.specs.Validity.{IsValid}
pub use Rattle.rollout_machine.specs.Verdicts.{check, first_refusal, is_device_action, is_known, is_old}
pub use Rattle.rollout_machine.specs.Verdicts.{notes_of, target_of, verdict, verdict_row}
pub use Rattle.rollout_machine.specs.declared.bounds.Bounds.{Bounds}
pub use Rattle.rollout_machine.specs.declared.view.Effects.{Effects}
pub use Rattle.rollout_machine.proofs.Words.{added_artifact, added_artifacts, approval_by, command_answer, decision_on, deployment_shown, error_begins_at}
pub use Rattle.rollout_machine.proofs.Words.{group_is_started, is_action_place, is_at_pause, is_note, is_pause_of, is_ready, is_resume_of, is_running}
pub use Rattle.rollout_machine.proofs.Words.{is_start_of, is_started_in, is_trigger_of, is_waiting, last_defined, members_of, number_of_group, numbered_if}
pub use Rattle.rollout_machine.proofs.Words.{places_from, places_of, rollouts_in, some_empty, standing_by, tags_by_row, targets_matching, word_is}
pub use Rattle.rollout_machine.specs.Ranges.{is_some_and}
