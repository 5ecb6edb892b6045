-- The names of other modules that the proofs here cite, passed on from one place. Declares nothing.
pub use Rattle.std.proofs.Common.{◌≡◌, ℕ, zero, suc, ◌+◌, ◌-◌, ◌<◌, ◌≤◌, Bool, true, false, cond, not, ◌&&◌, ◌||◌, List, [], ◌∷◌, ◌++◌, map, length, take}
pub use Rattle.std.proofs.Common.{drop, is_some, is_none, IfOk, nat_eq, nat_lt, nat_le, slice_get, Some, None, Ok, Err, Option, Result, sym, refl, ap}
pub use Rattle.std.proofs.Common.{◌∙◌, subst, inl, inr, arith}
pub use Rattle.std.proofs.lemmas.Bool.{and_parts, cases_Bool, cases_lt, cases_order, eq-eqb, eqb-true, false≢true, le-ltb, lt-ltb, ltb-true, ne_eqb, or_parts}
pub use Rattle.std.proofs.lemmas.Option.{slice_get_read}
pub use Rattle.std.specs.Option.{option_map, option_or, unwrap_or}
pub use Rattle.rollout_model.specs.declared.refusal.Refusal.{Refusal}
pub use Rattle.rollout_model.specs.declared.refusal.Refusal.TheVariants.{BadFilter, ClosedAction, Exists, Locked, NotFound, OldNumber, Quota, TooFewTargets}
pub use Rattle.rollout_model.specs.declared.refusal.Refusal.TheVariants.{Unauthorized, WrongDigest, WrongState}
pub use Rattle.rollout_machine.proofs.AtNumbers.{HasPlace, has_place}
pub use Rattle.rollout_machine.proofs.Induction.{Invariant, invariant_of}
pub use Rattle.rollout_machine.proofs.Lists.{each_from_more}
pub use Rattle.rollout_machine.proofs.Main.{records_step}
pub use Rattle.rollout_machine.proofs.Splits.{bounds_from, none_here, one_further, one_more_bounds}
pub use Rattle.rollout_machine.proofs.Valid.{IsPlace, has_started_is, its_group}
pub use Rattle.rollout_machine.specs.Actions.{ActionPlace, cancel_standing_said, cancel_stands, outcome_given, outcome_of_cancel, outcome_of_deployment}
pub use Rattle.rollout_machine.specs.ByteStrings.{item_numbered}
pub use Rattle.rollout_machine.specs.CommandList.{CommandList, ◌▸◌}
pub use Rattle.rollout_machine.specs.Commands.{Bytes, Cancel, CancelFeedback, CancelWord, CanceledCancel, ClosedCancel, Command, Credential, DeploymentWord}
pub use Rattle.rollout_machine.specs.Commands.{DeviceFeedback, Failed, Feedback, Noted, NotedCancel, Proceeding, Rejected, RejectedCancel, Resume, Resumed}
pub use Rattle.rollout_machine.specs.Commands.{Start, TriggerNext}
pub use Rattle.rollout_machine.specs.Effects.{IsLast, IsView, error_begins, feedback_pauses, good_after, last_with, next_if, starts_next}
pub use Rattle.rollout_machine.specs.Groupings.{GroupDefinition, Grouping, cut_by, percentages}
pub use Rattle.rollout_machine.specs.Groups.{bounds_of}
pub use Rattle.rollout_machine.specs.Progress.{is_group_started, is_paused, is_rollout_started}
pub use Rattle.rollout_machine.specs.Ranges.{each_from}
pub use Rattle.rollout_machine.specs.RecordSteps.{act_on, action_after, begin_rollout, change_rollout, counted, group_view, is_same_action, last_started}
pub use Rattle.rollout_machine.specs.RecordSteps.{new_actions, outcome_if_new, own_group, resumed, rollout_after, rollouts_after_outcome, start_group}
pub use Rattle.rollout_machine.specs.RecordSteps.{step_action, step_records, triggered, view_from_group, view_of}
pub use Rattle.rollout_machine.specs.Records.{Approval, Denied, Given, Records, action_in, approval_of, group_in, records, rollout_in}
pub use Rattle.rollout_machine.specs.Reports.{OfCancel, OfDeployment, Reported, Said, is_again, reported, reported_by, says_again, says_old, standing_of}
pub use Rattle.rollout_machine.specs.Rollouts.{Rollout, rule_at, size_in}
pub use Rattle.rollout_machine.specs.Splits.{first_empty, first_empty_from, split, split_bounds_of, split_last}
pub use Rattle.rollout_machine.specs.StateWords.{ActionWord, GroupWord, InError, InSync, PausedRollout, Pending, RolloutWord, RunningRollout, TargetWord}
pub use Rattle.rollout_machine.specs.StateWords.{Unknown, all_final, group_number_of, group_numbered, has_started, is_for}
pub use Rattle.rollout_machine.specs.StateWords.{rollout_word, word_from}
pub use Rattle.rollout_machine.specs.Validity.{IsValid}
pub use Rattle.rollout_machine.specs.Verdicts.{check, first_refusal, is_device_action, is_known}
pub use Rattle.rollout_machine.specs.Verdicts.{notes_of, rollout_word_row, same_word, says_note, target_of}
pub use Rattle.rollout_machine.specs.declared.outcome.Outcome.{Outcome}
pub use Rattle.rollout_machine.specs.declared.outcome.Outcome.TheVariants.{Bad, Gone, Good}
pub use Rattle.rollout_machine.specs.declared.records.ActionRecord.{ActionRecord}
pub use Rattle.rollout_machine.specs.declared.records.GroupRecord.{GroupRecord}
pub use Rattle.rollout_machine.specs.declared.records.RolloutRecord.{RolloutRecord}
pub use Rattle.rollout_machine.specs.declared.standing.Standing.{Standing}
pub use Rattle.rollout_machine.specs.declared.standing.Standing.TheVariants.{Again, Fresh, Old}
pub use Rattle.rollout_machine.specs.declared.view.Effects.{Effects}
pub use Rattle.rollout_machine.specs.declared.view.GroupView.{GroupView}
pub use Rattle.rollout_machine.specs.declared.view.RolloutView.{RolloutView}
pub use Rattle.campaign_core.specs.OwnGroups.{FollowsOutcome, IsOwnView, OwnDecides, OwnGroupDecides, effects_by, effects_of, following, own_effects}
pub use Rattle.campaign_core.specs.OwnGroups.{own_view_of, waits}
pub use Rattle.campaign_core.specs.RolloutChecks.{AreSound, BothOrNone, ChangesAction, ChangesRollout, Decides, Follows, IsActionView, IsCancelView}
pub use Rattle.campaign_core.specs.RolloutChecks.{IsDeviceAction, IsFeedbackView, IsResumeView, IsStandingView, IsTriggerView, LeadsTo}
pub use Rattle.campaign_core.specs.RolloutChecks.{DecidesAs, DecidesAt, JudgesCancel, JudgesFeedback, of_device}
pub use Rattle.campaign_core.specs.RolloutChecks.{MayChangeAction, StartsRollout, action_for, action_with, cancel_feedback_refusal, cancel_refusal}
pub use Rattle.campaign_core.specs.RolloutChecks.{canceling_after, change_by, change_if_fresh, change_numbered, with_approval, device_action, device_refusal}
pub use Rattle.campaign_core.specs.RolloutChecks.{ended_by, feedback_refusal, gives_other, is_fresh, is_overtaken, moved_by, only_if, outcome_forced, paused}
pub use Rattle.campaign_core.specs.RolloutChecks.{plan_refusal, report_refusal, resumed_by, rollout_with, rollouts_with, says_fresh, word_refusal}
pub use Rattle.campaign_core.specs.declared.own_group.OwnView.{OwnView}
pub use Rattle.campaign_core.specs.declared.rollout_checks.actions.ActionChange.{ActionChange}
pub use Rattle.campaign_core.specs.declared.rollout_checks.actions.ActionView.{ActionView}
pub use Rattle.campaign_core.specs.declared.rollout_checks.actions.CancelView.{CancelView}
pub use Rattle.campaign_core.specs.declared.rollout_checks.of_devices.DeviceAction.{DeviceAction}
pub use Rattle.std.proofs.Math.Bool.{and-not_self}
pub use Rattle.rollout_machine.proofs.Words.{group_is_started, has_next, is_at_pause, is_ready, is_running, is_waiting, number_of_group, same_outcome}
pub use Rattle.rollout_machine.proofs.Words.{word_by_last, word_is}
pub use Rattle.rollout_machine.specs.StateWords.{started_actions_of}
pub use Rattle.rollout_machine.specs.Ranges.{is_some_and}
