-- The names of other modules that the proofs here cite, passed on from one place. Declares nothing.
pub use Rattle.std.proofs.Common.{◌≡◌, ℕ, zero, suc, ◌+◌, ◌*◌, ◌%◌, ◌^◌, ◌<◌, ◌≤◌, Bool, true, false, cond, not, ◌&&◌, ◌||◌, List, [], ◌∷◌, ◌++◌, map, length}
pub use Rattle.std.proofs.Common.{get_or, take, replicate, is_none, nat_eq, nat_le, ◌==◌, Some, None, Ok, Err, string_bytes, codes, All, count_by, Option}
pub use Rattle.std.proofs.Common.{option_map, option_and_then, nat_cmp, BTreeSet, unwrap_or, sym, refl, ap, ◌∙◌, subst, inl, inr, append_assoc, add-zero}
pub use Rattle.std.proofs.Common.{arith, length-append, Bor, rules, below_more, tests}
pub use Rattle.std.proofs.lemmas.Bool.{false≢true, true≢false}
pub use Rattle.std.proofs.lemmas.Bool.Decides.{nat_tests}
pub use Rattle.std.proofs.lemmas.List.{append-nil, map-append, take_more}
pub use Rattle.std.proofs.lemmas.List.Folds.{list_all-map, list_all_at, list_any-append}
pub use Rattle.std.specs.List.{ends_with, find, flat_map, list_all, list_any, range_with_len, slice_split}
pub use Rattle.csv.specs.Records.{fields_of}
pub use Rattle.csv.specs.declared.reader.Reader.{Reader}
pub use Rattle.rollout_model.proofs.RuleLemmas.{both, spelled_is_utf8}
pub use Rattle.rollout_model.specs.Rules.{are_distinct_words, is_between, is_spelled, is_text, is_text_letter, is_token, is_word, is_word_letter, kept_if}
pub use Rattle.rollout_model.specs.Rules.{is_tag_list}
pub use Rattle.rollout_model.specs.declared.target_row.TargetRow.{TargetRow}
pub use Rattle.desk_files.specs.private.ImportSteps.{HasIds, Pushes, TakesRecord, has_id, if_new, row_behind}
pub use Rattle.desk_files.specs.Imports.{each_row, faulty_line, ids_of_rows, import_of, records_of, rows_of, targets_in_file, header}
pub use Rattle.desk_files.specs.private.RecordReaders.{GivesRecords, GivesNext, known}
pub use Rattle.desk_files.specs.TargetRecords.{Record, row_of, field_words}
pub use Rattle.desk_files.specs.declared.imported_rows.ImportedRows.{ImportedRows}
pub use Rattle.std.specs.Cmp.Lexicographic.{pointwise}
