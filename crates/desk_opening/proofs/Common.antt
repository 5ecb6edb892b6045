-- The names of other modules that the proofs here cite, passed on from one place. Declares nothing.
pub use Rattle.std.proofs.Common.{◌≡◌, ℕ, zero, suc, ◌+◌, ◌-◌, ◌*◌, ◌^◌, ◌<◌, ◌≤◌, min, Bool, true, false, not, ◌||◌, ◌≢◌, ◌⊎◌, List, [], ◌∷◌, ◌++◌, map}
pub use Rattle.std.proofs.Common.{length, get_or, take, drop, set, pos, IfOk, IfErr, if◌then◌else◌, IsErr, IsTrue, ◌==◌, slice_get, slice_index, slice_index_or}
pub use Rattle.std.proofs.Common.{Some, None, Ok, Err, codes, filter, Option, Result, option_map, find, unwrap_or, sym, refl, ap, ◌∙◌, subst, ap₂, inl, inr}
pub use Rattle.std.proofs.Common.{zero-add, arith, rules, get_or-take}
pub use Rattle.std.proofs.Math.Logic.{∥∥₁_elim, ∥∥₁_map}
pub use Rattle.std.proofs.lemmas.Bool.{and_parts, both_ways, cases_Bool, cases_eq, eqb-true, or_parts, true≢false}
pub use Rattle.std.proofs.lemmas.List.{drop_all, drop_more, length-map, length-take, take-append-drop, take_all, take_more}
pub use Rattle.std.specs.List.{AllByRecursion, AllZip, list_any, position_from}
pub use Rattle.sqlite.proofs.Callers.{statement_of}
pub use Rattle.sqlite.specs.Command.TheVariants.{Begin, Commit, CreateTable, Insert, Select, Update}
pub use Rattle.sqlite.specs.Effect.{Database, IsDatabase}
pub use Rattle.sqlite.specs.Files.{AreFoundIn, FailsToOpenFiles, HoldsDatabase, IsBlankAs, IsNothing, LeavesFiles, NamesSize, SaysSums, file_state, image_of}
pub use Rattle.sqlite.specs.Held.{Held, state}
pub use Rattle.sqlite.specs.Recovery.{Image}
pub use Rattle.sqlite.specs.Schema.{Schema}
pub use Rattle.sqlite.specs.Source.TheVariants.{Values}
pub use Rattle.sqlite.specs.State.{CommitsBy, HasCleanDisk, IsLive, Opens, Runs, State, Survives, Writes, store_error, text_of}
pub use Rattle.sqlite.specs.Table.{Table}
pub use Rattle.sqlite.specs.Term.{Term, col, lit}
pub use Rattle.sqlite.specs.Tree.{Trees}
pub use Rattle.sqlite.specs.WalFiles.{image_at}
pub use Rattle.sqlite.specs.declared.file.Leftover.{Leftover}
pub use Rattle.sqlite_catalog.specs.Change.{automatics, is_used, next_tree}
pub use Rattle.sqlite_catalog.specs.Listing.{IsSound, IsTableRow, IsViewRow}
pub use Rattle.sqlite_keyed.proofs.ListLemmas.{IsPermutation-same, all-slice_get, none_from_any}
pub use Rattle.sqlite_pool.specs.Stored.{StandsAs, is_summed, reserved, stored_size, used_size}
pub use Rattle.sqlite_resolve.specs.Compile.{first, table_defined_by}
pub use Rattle.sqlite_rules.specs.Lists.{Has}
pub use Rattle.sqlite_schema.specs.Names.{same_name, table_named}
pub use Rattle.sqlite_trees.specs.Tree.{IsAscending, has_rowid}
pub use Rattle.sqlite_value.specs.Order.{Row, column}
pub use Rattle.sqlite_value.specs.declared.keys.Order.{Order}
pub use Rattle.sqlite_value.specs.declared.value.Value.{Value}
pub use Rattle.sqlite_value.specs.declared.value.Value.TheVariants.{Int, Null, Text}
pub use Rattle.sqlite_wal.specs.Files.{outcomes}
pub use Rattle.rollout_model.specs.declared.group_rule.GroupRule.{GroupRule}
pub use Rattle.rollout_machine.specs.GroupRules.{even_rules, rules_of}
pub use Rattle.rollout_machine.specs.Records.{Records}
pub use Rattle.rollout_machine.specs.declared.records.RolloutRecord.{RolloutRecord}
pub use Rattle.sql_calls.proofs.Ends.{begin_is, commit_is, rollback_is}
pub use Rattle.sql_calls.proofs.FrameEnds.{begins, fails_to_begin, gives_up, still_holds}
pub use Rattle.sql_calls.proofs.Inserts.{Inserted, given_rows, inserts, uncounted}
pub use Rattle.sql_calls.proofs.Leavings.{first_shown, first_unchanged, never_commits_inside, never_shows_inside, none_shown, runs_plain, shows_as}
pub use Rattle.sql_calls.proofs.Leavings.{stays_inside}
pub use Rattle.sql_calls.proofs.NumberedRows.{cast_int, cast_null}
pub use Rattle.sql_calls.proofs.Selects.{passes, shown_of, simple_rows}
pub use Rattle.sql_calls.proofs.Apart.{HasNoForeignKey}
pub use Rattle.sql_calls.specs.Calls.{RunsText, TakesFirst, TakesTo}
pub use Rattle.sql_calls.specs.KeyIndexes.{ComparesBytes}
pub use Rattle.sql_calls.specs.private.Means.{Known, Knows, Means}
pub use Rattle.sql_calls.specs.Standing.{HoldIn, IsAtRest, Rests, Sees, Spoiled, Wears}
pub use Rattle.sql_calls.specs.declared.fault.Fault.{Fault}
pub use Rattle.sql_front.specs.Bare.{HaveNullDefaults, IsBareTable}
pub use Rattle.sql_front.specs.Found.{StandsSomewhere}
pub use Rattle.sql_front.specs.Free.{LeavesFree}
pub use Rattle.sql_front.specs.Stands.{Stands}
pub use Rattle.desk_records.proofs.EachPlace.{each_place}
pub use Rattle.desk_records.proofs.Meaning.{desk_query, desk_terms, get_desk_is, put_desk_is, set_version_is, set_version_query, version_values}
pub use Rattle.desk_records.proofs.MeaningWords.{asked_at, changed_at, is_equal, means_of, put_at}
pub use Rattle.desk_records.proofs.Places.{among, is_among, is_named, place_named, place_or_other, same_elsewhere, same_places}
pub use Rattle.desk_records.proofs.Readable.{at_newest, from_newest, has_desk, of_all, one_numbered}
pub use Rattle.desk_records.specs.Codes.{flag}
pub use Rattle.desk_records.specs.Holds.{AreRowsOf, Content, HoldsLedger, HoldsRecords, IsHeld, Ledger, Offered, Ordered, Spot, Unordered, content_at}
pub use Rattle.desk_records.specs.Holds.{content_of, desk_row, ledger_of}
pub use Rattle.desk_records.specs.Readable.{HoldsAt, HoldsPlace, HoldsReadable}
pub use Rattle.desk_records.specs.Rollouts.{rule_row, rules_from, told_rollout}
pub use Rattle.desk_records.specs.Schema.{Desk, Offers, Place, Rules, desk_names, desk_table, name_of, offer_table, places, rule_table, table_at}
pub use Rattle.desk_records.specs.TableTexts.{create_text_of}
pub use Rattle.desk_records.specs.Versions.{IsEven, IsTellable, IsUnnumbered, later_than, newest, version_number, places_at, table_count_of}
pub use Rattle.desk_records.specs.declared.rollout_texts.TheConstants.{GET_ROLLOUT, LAST_ROLLOUT, PUT_RULE}
pub use Rattle.desk_records.specs.declared.texts.TheConstants.{GET_DESK, PUT_DESK, SET_VERSION}
pub use Rattle.desk_records.specs.declared.version.Version.{Version}
pub use Rattle.desk_records.specs.declared.version.Version.TheVariants.{One}
pub use Rattle.desk_opening.specs.private.Filling.{FillsLater, FillsRollout, WritesCopies, WritesRules}
pub use Rattle.desk_opening.specs.private.Filling.{bare_ledger, no_rules}
pub use Rattle.desk_store.specs.Breaking.{TellsFirst}
pub use Rattle.desk_store.specs.Failing.{nothing}
pub use Rattle.desk_opening.specs.Making.{AreApart, At, Before, Free, HoldsBefore, HoldsPartly, HoldsStage, IsEmptyTable, Makes, MakesTables}
pub use Rattle.desk_opening.specs.Making.{Nothing, Older, Partly, Stage, Whole, first_records, told}
pub use Rattle.desk_opening.specs.Migrating.{HoldsFrom, HoldsOf, LeftOf, Migrates, MovesTo}
pub use Rattle.desk_opening.specs.Opening.{Adopts, FindsFault, FindsTo, HasDesk, HasDeskAt, HasDeskTables, HasNoDesk, HasNoRow, HasRow, IsDeskRow, IsFailure}
pub use Rattle.desk_opening.specs.Opening.{IsKnownOpen, IsNewerRow, IsOtherRow, IsSettled, IsWholeAt, Keeps, LacksAt, LacksPartOfDesk, LacksTables, OpensDesk}
pub use Rattle.desk_opening.specs.Opening.{TakesDeskRow, TellsOfRow, TellsVersion}
pub use Rattle.desk_opening.specs.Places.{place_of}
pub use Rattle.desk_opening.specs.Reopening.{BeginsPlain, EachAfter, HoldsDesk, HoldsDeskAt, HoldsNone, HoldsPlain, HoldsWhatWas, IsForeign, Reopens, Spares}
pub use Rattle.desk_opening.specs.Reopening.{UsesNoName}
pub use Rattle.desk_opening.specs.declared.desk_table.DeskTable.{DeskTable}
pub use Rattle.desk_opening.specs.declared.opening.OpenFault.{OpenFault}
pub use Rattle.desk_opening.specs.declared.opening.OpenFault.TheVariants.{NewerVersion, NotDesk, Store}
pub use Rattle.std.proofs.Math.Bool.{and-true}
pub use Rattle.sql_calls.proofs.Actions.{all_both}
pub use Rattle.sql_front.proofs.Found.{same_some}
