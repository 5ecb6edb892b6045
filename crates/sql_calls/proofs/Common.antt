-- The names of other modules that the proofs here cite, passed on from one place. Declares nothing.
pub use Rattle.std.proofs.Common.{◌≡◌, ℕ, zero, suc, ◌+◌, ◌-◌, ◌/◌, ◌^◌, ◌<◌, ◌≤◌, min, Bool, true, false, cond, not, ◌&&◌, ◌||◌, ◌≢◌, ◌⊎◌, List, [], ◌∷◌, ◌++◌}
pub use Rattle.std.proofs.Common.{map, length, get_or, take, set, ℤ, pos, negsuc, ◌+ℤ◌, IfOk, IsTrue, nat_lt, nat_le, slice_get, Some, None, Ok, Err, codes}
pub use Rattle.std.proofs.Common.{MatchBool, fold, filter, Option, Result, Vec, option_map, IsPermutation, flat_map, filter_map, bytes_eq, Ordering, Less}
pub use Rattle.std.proofs.Common.{Equal, Greater, unwrap_or, sym, refl, ap, ◌∙◌, subst, ap₂, inl, inr, arith, drop, append_assoc, append-nil}
pub use Rattle.std.proofs.lemmas.Bool.{both_ways, cases_Bool, eq-eqb, or_parts}
pub use Rattle.std.proofs.lemmas.Bool.Decides.{nat_tests}
pub use Rattle.std.proofs.lemmas.Int.{ints}
pub use Rattle.std.proofs.lemmas.List.{length-map}
pub use Rattle.std.proofs.lemmas.List.Sorted.{IsPermutation-cons, IsPermutation-map, IsPermutation-sym, IsPermutation-to_front, IsPermutation-trans}
pub use Rattle.std.proofs.lemmas.List.Sorted.{length_permutation, list_any-IsPermutation}
pub use Rattle.std.specs.List.{AllByRecursion, AllZip, list_all, list_any}
pub use Rattle.std.specs.Ordering.{is_eq}
pub use Rattle.std.specs.declared.alloc.Global.{Global}
pub use Rattle.sqlite.proofs.Callers.{EndsIn, begins_shown, command_of, one_permutation, one_step, reads_as, runs_as, statement_of}
pub use Rattle.sqlite.specs.Collation.TheVariants.{Binary}
pub use Rattle.sqlite.specs.Command.{Command}
pub use Rattle.sqlite.specs.Command.TheVariants.{Begin, Commit, Delete, Insert, InsertOr, Release, Rollback, Update}
pub use Rattle.sqlite.specs.Does.{OnRows, Tally}
pub use Rattle.sqlite.specs.Edit.{Applies, Edit, edit_of, edited, taken_by}
pub use Rattle.sqlite.specs.Effect.{Answers, Database, IsSource, RefusesToRead, value_rows}
pub use Rattle.sqlite.specs.Kind.TheVariants.{Integer}
pub use Rattle.sqlite.specs.Listing.{understood, reads_listing}
pub use Rattle.sqlite.specs.Order.{Row}
pub use Rattle.sqlite.specs.Program.{overlay}
pub use Rattle.sqlite.specs.Query.{IsAnswer, Output, Query, counted, end, inner, output, output_cmp, page}
pub use Rattle.sqlite.specs.Rowids.TheVariants.{Chosen, Given}
pub use Rattle.sqlite.specs.Rows.{Task, Written, shown, stamped}
pub use Rattle.sqlite.specs.Schema.{Schema}
pub use Rattle.sqlite.specs.Source.{Source}
pub use Rattle.sqlite.specs.Source.TheVariants.{Values}
pub use Rattle.sqlite.specs.State.{CommitsBy, CommitsShowing, Executes, FailsToShow, HasCleanDisk, IsRolledBack, IsUnchanged, Runs, RunsCommand, State}
pub use Rattle.sqlite.specs.State.{Survives, Writes, mode_of, store_error}
pub use Rattle.sqlite.specs.Table.{Table}
pub use Rattle.sqlite.specs.Term.{Env, Term, col, eval_all, holds, lit}
pub use Rattle.sqlite.specs.Tree.{Trees}
pub use Rattle.sqlite_catalog.specs.Listing.{IsDefined, IsIndexRow, IsSound, IsTableRow, automatic, is_index_row}
pub use Rattle.sqlite_keyed.proofs.ListLemmas.{IsPermutation-filter, all-slice_get, all_of, all_weaker, filter_all, map-map}
pub use Rattle.sqlite_keyed.proofs.SortLemmas.{sorted_unique}
pub use Rattle.sqlite_rules.proofs.KeyLemmas.{agree_back, agree_chain}
pub use Rattle.sqlite_rules.proofs.ListLemmas.{all_from, all_has, has_got}
pub use Rattle.sqlite_rules.specs.Action.{Acts, ActsOn, AreChildren, End, Goes, Leads, Work, action_edit, max_depth, pairs, refuses, work_by, work_for, works}
pub use Rattle.sqlite_rules.specs.Calls.{ids_of}
pub use Rattle.sqlite_rules.specs.Cast.{cast, cast_all, cast_row}
pub use Rattle.sqlite_rules.specs.Edit.{id_in, next_rowid, with_rowid, without_all}
pub use Rattle.sqlite_rules.specs.Keys.{AreConflicts, conflicts, shares}
pub use Rattle.sqlite_rules.specs.Lists.{Has}
pub use Rattle.sqlite_rules.specs.declared.action.Deed.{Deed}
pub use Rattle.sqlite_schema.specs.Rules.{ParentKey, agree, clashes, differ, equal, guards}
pub use Rattle.sqlite_schema.specs.declared.command.Conflict.TheVariants.{Abort}
pub use Rattle.sqlite_schema.specs.declared.command.Upsert.{Upsert}
pub use Rattle.sqlite_schema.specs.declared.program.Program.{Program}
pub use Rattle.sqlite_schema.specs.declared.schema.Index.{Index}
pub use Rattle.sqlite_schema.specs.declared.schema.Keys.TheVariants.{Enforced}
pub use Rattle.sqlite_schema.specs.declared.schema.Reference.{Reference}
pub use Rattle.sqlite_sql.proofs.QueryLemmas.{output_cmp_total}
pub use Rattle.sqlite_sql.specs.Ops.{is_true}
pub use Rattle.sqlite_trees.specs.Tree.{IsAscending, has_rowid, put_row, rowid, without_rowid}
pub use Rattle.sqlite_value.proofs.OrderLemmas.{value_cmp-Int}
pub use Rattle.sqlite_value.specs.Keys.{first_key, plain}
pub use Rattle.sqlite_value.specs.Order.{column, value_cmp}
pub use Rattle.sqlite_value.specs.declared.keys.Key.{Key}
pub use Rattle.sqlite_value.specs.declared.value.Value.{Value}
pub use Rattle.sqlite_value.specs.declared.value.Value.TheVariants.{Blob, Int, Null, Real, Text}
pub use Rattle.sql_calls.proofs.Apart.{HasNoForeignKey}
pub use Rattle.sql_calls.specs.Calls.{AsksFew, AsksText, RunsText, TakesFirst, TakesTo, few_of}
pub use Rattle.sql_calls.proofs.Columns.{HaveKeysApart, Rise}
pub use Rattle.sql_calls.specs.Keyed.{AreIn, IsHeldBy, rows_from}
pub use Rattle.sql_calls.specs.private.Means.{Known, Knows, KnowsQuery, KnowsWrite, Means, Takes, writes_rows}
pub use Rattle.sql_calls.specs.Standing.{Begins, Commits, Finds, FrameTo, GivesUp, HoldIn, IsAtRest, IsInDoubt, IsInside, IsSpoiled, Keeps, Makes, Opens, Rests}
pub use Rattle.sql_calls.specs.Standing.{Sees, Shows, Spoiled}
pub use Rattle.sql_calls.specs.declared.fault.Fault.{Fault}
pub use Rattle.std.proofs.Math.Bool.{and-true}
