-- The names of other modules that the proofs here cite, passed on from one place. Declares nothing.
pub use Rattle.std.proofs.Common.{◌≡◌, ℕ, zero, suc, ◌+◌, ◌-◌, ◌<◌, ◌≤◌, Bool, true, false, ◌&&◌, ◌⊎◌, List, [], ◌∷◌, map, length, take, drop, nat_eq, Some}
pub use Rattle.std.proofs.Common.{None, Ok, Option, Result, find, sym, refl, ap, ◌∙◌, subst, inl, inr, true≢false, add-one, arith}
pub use Rattle.std.proofs.lemmas.Bool.{and_from, and_parts, le-leb, leb-false, leb-true, or_parts}
pub use Rattle.std.specs.Cmp.Lexicographic.{pointwise}
pub use Rattle.std.specs.List.{list_all, list_any}
pub use Rattle.std.specs.Option.{is_some, option_map}
pub use Rattle.sqlite_rules.proofs.ListLemmas.{has_either, has_filtered, test_has}
pub use Rattle.sqlite_rules.specs.Lists.{Has}
pub use Rattle.rollout_model.specs.Rows.{is_target_row}
pub use Rattle.rollout_model.specs.Rules.{are_details, are_distinct_words, is_number, is_tag_list, is_text, is_word, kept_if}
pub use Rattle.rollout_machine.proofs.Imports.{AllAbove, IsSorted, below_apart, not_above, sorted_with, with_there}
pub use Rattle.rollout_machine.proofs.Lists.{each_there, length_each, numbered_each}
pub use Rattle.rollout_machine.proofs.TargetTies.{same_by, same_pointwise, same_refl, same_sym, same_true}
pub use Rattle.rollout_machine.proofs.Valid.{none_holds}
pub use Rattle.rollout_machine.specs.ByteStrings.{contains_word, item_numbered, same_bytes, sorted_words, with_word, with_words, without_word}
pub use Rattle.rollout_machine.specs.CommandList.{CommandList, Make, ◌▸◌}
pub use Rattle.rollout_machine.specs.CommandRules.{IsWellFormed, is_credential, is_device_feedback}
pub use Rattle.rollout_machine.specs.Commands.{Attribute, Bytes, Command, Credential, DeviceFeedback, ModuleLabel, PutAttributes, PutTargets, RolloutPlan}
pub use Rattle.rollout_machine.specs.Commands.{SetLabel, Tag, TargetRow, Untag}
pub use Rattle.rollout_machine.specs.Records.{Records, group_in, modules, records, rollout_in, sets}
pub use Rattle.rollout_machine.specs.Rollouts.{Rollout, chosen, created, first_of, rollout_at, rollouts, size_in, size_of}
pub use Rattle.rollout_machine.specs.Targets.{Target, attributes_in, import_rows_of, last_row_for, last_row_of, tags_in, target_ids, target_in}
pub use Rattle.rollout_machine.specs.Targets.{targets, with_attribute, with_attributes}
pub use Rattle.rollout_machine.specs.Validity.{IsValid}
pub use Rattle.rollout_machine.specs.Verdicts.{is_known, tags_of, target_of, verdict, verdict_row}
pub use Rattle.rollout_machine.specs.declared.records.RolloutRecord.{RolloutRecord}
pub use Rattle.sql_calls.proofs.Composing.{both_found, finds_as, found_held}
pub use Rattle.desk_records.proofs.ByteOrder.{sorted_from}
pub use Rattle.desk_records.proofs.Membership.{has_mapped}
pub use Rattle.desk_records.proofs.Targets.{has_id}
pub use Rattle.desk_records.specs.Holds.{HoldsLedger, ledger_of}
pub use Rattle.desk_records.specs.Parts.{parts_of}
pub use Rattle.desk_records.specs.Rollouts.{groups_of, numbered_from, rule_numbered, rules_numbered}
pub use Rattle.desk_records.specs.Targets.{are_sorted, attributes_of, ids_of, in_byte_order}
pub use Rattle.desk_store.proofs.LedgersOfRecords.{ledger_found}
pub use Rattle.desk_reads.specs.AtLists.{AreOfList, FailsAtListsIn}
pub use Rattle.desk_reads.specs.Rollouts.{IsSeenOf, last_in, last_place}
pub use Rattle.rollout_machine.proofs.Words.{added_modules, added_sets, is_set_label, rollouts_in, tags_by_row}
