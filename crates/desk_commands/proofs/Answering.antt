-- What the answers here cite, passed on from one place. Declares nothing.
pub use Rattle.desk_commands.proofs.Common.{makes_three, ◌≡◌, None, Some, sym, ◌∙◌, makes_as, refl, ledger_made, ledger_of, records_are_sound, records}
pub use Rattle.desk_commands.proofs.Common.{makes_nothing, CancelFeedback, device_action_seen, Feedback, makes_then, ◌≤◌, length, arith, nat_tests, both_found}
pub use Rattle.desk_commands.proofs.Common.{finds_as, true, false, ap, ◌+◌, same_number, cond, sorted_from, take, in_byte_order, keys_of, keys_after}
pub use Rattle.desk_commands.proofs.Common.{GivesAttribute, rules, GivesAttributes, Ok, Fault, MakesIn, StaysIn, WritesIn, found_held, filter_of, map}
pub use Rattle.desk_commands.proofs.Common.{target_listed, Tree, FindsIn, FailsAtListsIn, ledger_found, [], CreatesRollout, in_part}
pub use Rattle.desk_commands.proofs.Common.{MakesLedger, rules_of, started, with_group, found_then_makes, GoesOn, last_started, known, rule_at}
pub use Rattle.desk_commands.proofs.Common.{said_of, item_numbered, Records, Resume, TriggerNext, details_kept, not, Approve, Deny, Pause, WritesSaid, Start}
pub use Rattle.desk_commands.proofs.Common.{StartsWhole, target_of, PutsOver, renamed, with_changed, seen_in, Renames, are_sorted, tags_of, Retags}
pub use Rattle.desk_commands.proofs.Common.{contains_word, list_any, GroupRecord, untagged, append-nil, is_none, chosen}
pub use Rattle.desk_commands.proofs.ActingExits.{has_room, numbers_stay}
pub use Rattle.desk_commands.proofs.ActingSteps.{acts_on_fresh, cancel_taken, feedback_taken, own_viewed}
pub use Rattle.desk_commands.proofs.AdditionLemmas.{adds_none, adds_whole, lacks, missing, module_added, set_added}
pub use Rattle.desk_commands.proofs.ArtifactLemmas.{adds_first_piece, adds_no_bytes, adds_parts, artifact_added, artifact_is_step, is_another, is_of_upload}
pub use Rattle.desk_commands.proofs.ArtifactLemmas.{shown_count}
pub use Rattle.desk_commands.proofs.AttributeLemmas.{adds_one, counted_key, given_viewed, gives_all, keeps_one, more_attributes, sets_one}
pub use Rattle.desk_commands.proofs.ComposeLemmas.{accepted, accepted_at, in_order, refused, refused_at}
pub use Rattle.desk_commands.proofs.CreationLemmas.{creates, no_members, one_group, one_more_member, one_rule, ready, shown_added, sixteen_more, then_members}
pub use Rattle.desk_commands.proofs.CreationLemmas.{within}
pub use Rattle.desk_commands.proofs.EndingLemmas.{ending_parts}
pub use Rattle.desk_commands.proofs.FailureLemmas.{asked, asked_at, never, never_at, never_given, never_missing, reads_end, writes_as}
pub use Rattle.desk_commands.proofs.FailureLemmas.{writes_behind, writes_end}
pub use Rattle.desk_commands.proofs.ImportLemmas.{adds_row_parts, changes_row_parts, renames_nothing}
pub use Rattle.desk_commands.proofs.KnownActions.{cancel_viewed, feedback_viewed}
pub use Rattle.desk_commands.proofs.ProgressLemmas.{gone_on, last_step, none_said, seen_view}
pub use Rattle.desk_commands.proofs.PutExits.{renamed_readable, rows_end}
pub use Rattle.desk_commands.proofs.PutLemmas.{PutsSoFar, all_put, none_put, one_more, count_kept, row_more, row_put, row_refused, row_refuses}
pub use Rattle.desk_commands.proofs.ReportLemmas.{entry_kept, none_at, stands_at, stands_equal}
pub use Rattle.desk_commands.proofs.RolloutExits.{ends_in, first_there, found_in, last_said, numbers_left}
pub use Rattle.desk_commands.proofs.SeenLemmas.{ok_or_some, sees}
pub use Rattle.desk_commands.proofs.StandingLemmas.{judged, none_there, of_list, said_written, seen_there, standing_view}
pub use Rattle.desk_commands.proofs.StartLemmas.{starts_whole}
pub use Rattle.desk_commands.proofs.TagLemmas.{any_word, none_left, pointwise_is, retags_parts, tags_distinct}
pub use Rattle.desk_commands.proofs.TagStepLemmas.{had_is_step, tag_is_step}
pub use Rattle.desk_commands.proofs.TellingLemmas.{no_number, none_told, number_adds, telling_parts, told_parts}
pub use Rattle.desk_commands.proofs.WorkLemmas.{taken_within}
pub use Rattle.campaign_core.proofs.ActionLemmas.{cancel_row}
pub use Rattle.campaign_core.proofs.CheckLemmas.{artifact_row, attributes_row, module_row, set_row, tag_row, untag_row}
pub use Rattle.campaign_core.proofs.FeedbackLemmas.{on_cancel, on_deployment, refuses_device}
pub use Rattle.desk_commands.proofs.TargetLemmas.{change_twice, no_change}
