-- What the answers here cite, passed on from one place. Declares nothing.
pub use Rattle.desk_views.proofs.Common.{◌≡◌, map, take, shown_among, ◌+◌, sym, ap, ◌∙◌, arith, ◌++◌, ◌∷◌, [], length-append, numbered, entry_by, all_given}
pub use Rattle.desk_views.proofs.Common.{length, rules, take_all, both_found, finds_as, listed_shown, Ok, Fault, FindsAtListsIn, FailsAtListsIn, StaysIn}
pub use Rattle.desk_views.proofs.Common.{ledger_found, ◌≤◌, Err, nat_tests, item_numbered, group_holding, shown_in, groups_are, action_of_target, nat_eq, not}
pub use Rattle.desk_views.proofs.Common.{is_some, stored_rollout, actions_of_rollout, ActionsTableShown, page_of, drop, same_bytes, actor_of, stored_target}
pub use Rattle.desk_views.proofs.Common.{actions_of_target, ActionsShown, target_of, found_if, ◌*◌, IsSome, limits}
pub use Rattle.desk_views.proofs.Common.{pieces_of_artifact, ◌-◌, FindsIn, Some, None, artifacts_shown, refl, IfOk, subst, named, IsOfName, same_pointwise}
pub use Rattle.desk_views.proofs.Common.{or_not_found, found_then, chunks_of, known, chunk, modules_offered, List, false, true, inl, inr, rules_of, group_shown}
pub use Rattle.desk_views.proofs.Common.{RolloutRecord, IsSeenOf, Broken, said_of, targets_of, targets_shown, shown_target, BothOrNone, GroupShown}
pub use Rattle.desk_views.proofs.Common.{ShownAction, slice_get}
pub use Rattle.desk_views.proofs.Common.{group_numbered, members_in, TargetsShown, groups_shown, GroupsShown, rules_there, ModulesShown, same_number, FailsWith}
pub use Rattle.desk_views.proofs.Common.{report_of, ReportShown, RolloutsShown, SetsShown, option_map, worded, found_held, matching_shown, target_listed, ◌<◌}
pub use Rattle.desk_views.proofs.Common.{◌^◌, listed, ShownTarget, Tree, filter_of, seen, group_is_started, TargetWord}
pub use Rattle.desk_views.proofs.ActionViews.{all_listed, more_shown, none_shown, none_there, numbers_are, of_rollout_is, one_action, one_there}
pub use Rattle.desk_views.proofs.ActionViews.{page_counted, part_shown, stored_at}
pub use Rattle.desk_views.proofs.ArtifactViews.{pieces_grow, together}
pub use Rattle.desk_views.proofs.DeviceViews.{answered_by, downloaded, named_said}
pub use Rattle.desk_views.proofs.FailingActions.{listed_few, numbers_few, places_few}
pub use Rattle.desk_views.proofs.FailingGroups.{group_ruled, group_small, groups_showable, page_showable}
pub use Rattle.desk_views.proofs.FailingReads.{contents_read, size_of_numbered, some_left}
pub use Rattle.desk_reads.proofs.ListFailLemmas.{fails_when}
pub use Rattle.desk_views.proofs.FailingViews.{never_answers, never_fails, told}
pub use Rattle.desk_views.proofs.GroupViews.{groups_mapped, groups_paged, numbered_rule, one_group, unshown_at}
pub use Rattle.desk_views.proofs.HistoryViews.{numbered_more, page_numbered}
pub use Rattle.desk_views.proofs.MemberViews.{members_paged}
pub use Rattle.desk_views.proofs.PageLemmas.{entry_is, numbered_length, page_ends, page_grows}
pub use Rattle.desk_views.proofs.RolloutViews.{as_numbered, one_replied, one_seen}
pub use Rattle.desk_views.proofs.TargetPages.{all_replied, content_is, matching_replied}
pub use Rattle.desk_views.proofs.TargetViews.{id_found}
