-- The names of other modules that the proofs here cite, passed on from one place. Declares nothing.
pub use Rattle.std.proofs.Common.{All, Bool, Contains, Err, IfErr, IfOk, IsTrue, List, None, Ok, Option, Result, Some, Vec, [], add-one, ap, append-nil, arith}
pub use Rattle.std.proofs.Common.{cond, drop, false, get_or, inl, inr, is_some, length, length-drop, length-take, map, min, nat_eq, refl, rules, slice_get}
pub use Rattle.std.proofs.Common.{subst, suc, sym, take, true, vec_capacity, vec_len, zero, ℕ, ◌&&◌, ◌*◌, ◌++◌, ◌+◌, ◌<◌, ◌||◌, ◌∙◌, ◌∷◌, ◌≡◌, ◌≢◌, ◌≤◌, ◌⊎◌}
pub use Rattle.std.proofs.lemmas.Bool.{and_parts, cases_Bool, eqb-true, false≢true, not-true, or_right}
pub use Rattle.std.specs.Option.{option_map, unwrap_or}
pub use Rattle.std.specs.declared.alloc.Global.{Global}
pub use Rattle.sqlite.specs.Effect.{Database}
pub use Rattle.sqlite.specs.FileStore.{faults, files, is_shielded, recovers, view}
pub use Rattle.sqlite.specs.Files.{HoldsDatabase, IsClosed, file_state, image_of}
pub use Rattle.sqlite.specs.Held.{AreDatabases, Held, state}
pub use Rattle.sqlite.specs.Recovery.{Image}
pub use Rattle.sqlite.specs.State.{HasCleanDisk, State}
pub use Rattle.sqlite.specs.Store.{Ghosts}
pub use Rattle.sqlite.specs.Tree.{Trees}
pub use Rattle.sqlite.specs.WalReads.{AreClean}
pub use Rattle.sqlite_disk.specs.declared.Files.{Files}
pub use Rattle.sqlite_store.specs.declared.store.FileStore.{FileStore}
pub use Rattle.rollout_model.specs.Limits.{limits}
pub use Rattle.rollout_model.specs.declared.refusal.Refusal.{Refusal}
pub use Rattle.rollout_model.specs.declared.refusal.Refusal.TheVariants.{NoMemory, NotFound, StoreFailed, Unauthorized}
pub use Rattle.rollout_machine.proofs.Answering.{accepted_step, query_answer, refused_answer}
pub use Rattle.rollout_machine.proofs.Main.{records_step}
pub use Rattle.rollout_machine.proofs.StoreFailures.{answer_never_stores, failed_true}
pub use Rattle.rollout_machine.specs.Answers.{Answer, MayAnswer, answer, artifact_named, artifact_of_module, for_device, if_found, is_offer_of}
pub use Rattle.rollout_machine.specs.Answers.{modules_offered, query_reply, targets_reply}
pub use Rattle.rollout_machine.specs.ByteStrings.{contains_word, item_numbered, same_bytes}
pub use Rattle.rollout_machine.specs.CommandList.{CommandList, Make, followed_by, ◌▸◌}
pub use Rattle.rollout_machine.specs.Commands.{Bytes, Command, Credential, TargetRow}
pub use Rattle.rollout_machine.specs.RecordSteps.{step_records}
pub use Rattle.rollout_machine.specs.Records.{ArtifactRecord, Records, artifacts, records}
pub use Rattle.rollout_machine.specs.Replies.{ArtifactShown, ContentsShown, PollShown, Refused, Reply}
pub use Rattle.rollout_machine.specs.Requests.{Ask, Asked, Asks, Do, Download, Page, Poll, Query, Request, ShowArtifact, ShowContents}
pub use Rattle.std.specs.Option.{option_to_list as one}
pub use Rattle.rollout_machine.specs.Standing.{Applies, AppliesAt, Becomes, DeskState, IsInDoubt, StandsFor, StaysStopped}
pub use Rattle.rollout_machine.specs.StoreFailures.{is_failed_store, is_store}
pub use Rattle.rollout_machine.specs.Validity.{IsValid}
pub use Rattle.rollout_machine.specs.Views.{command_of, query_of, reply_of, request_of}
pub use Rattle.request_handler.specs.Downloads.{BeginsAt, HandsPieces, Sends, next_length, sent}
pub use Rattle.sql_calls.proofs.FrameEnds.{rest_shows}
pub use Rattle.sql_calls.specs.Standing.{Begins, Doubts, HoldIn, IsAtRest, Keeps, Opens, Rests, Sees, Spoiled, Wears}
pub use Rattle.sql_calls.specs.declared.fault.Fault.{Fault}
pub use Rattle.sql_calls.specs.declared.fault.Fault.TheVariants.{Broken, Store}
pub use Rattle.desk_records.proofs.WholeArtifacts.{IsWhole, all_whole}
pub use Rattle.desk_records.specs.Artifacts.{piece_numbered, pieces_in, pieces_of_artifact}
pub use Rattle.desk_records.specs.Holds.{HoldsLedger, HoldsRecords, Ledger, ledger_of}
pub use Rattle.desk_records.specs.Readable.{HoldsReadable}
pub use Rattle.desk_records.specs.Tables.{HoldsTables, Tables}
pub use Rattle.sql_calls.specs.declared.calls.Calls.{Calls}
pub use Rattle.desk_opening.specs.Reopening.{BeginsPlain, Reopens}
pub use Rattle.rollout_desk.specs.private.Changes.{EndsByCommit, EndsByRollback, Handles, refusal_of_fault}
pub use Rattle.rollout_desk.specs.DeskStates.{desk_state}
pub use Rattle.rollout_desk.specs.Desks.{HoldsList, desk_state_at}
pub use Rattle.rollout_desk.specs.Downloads.{BeginsOffered, DownloadsGoOn, HandsItsArtifact, IsNextOf, RefusesContents, artifact_in}
pub use Rattle.rollout_desk.specs.Looks.{EndsLook, FindsDownload, Looks, bytes_of}
pub use Rattle.rollout_desk.specs.Openings.{AllHold, GivesBack, GoesOnOver, ReopensDesk}
pub use Rattle.rollout_desk.specs.Promises.{Describes, DownloadsItsOffer, IsPromised, IsTarget, KeepsToOffers, NamesItsOffer, ShowsWhole, asker, offer_named}
pub use Rattle.rollout_desk.specs.Runs.{BreaksOff, EndsRun, RequestExchange, GoesOn, IsRun, RunsThrough, accepted_of}
pub use Rattle.rollout_desk.specs.Sizes.{AnswersIn, KeepsOffer, KeepsOffers, KeepsSizes}
pub use Rattle.rollout_desk.specs.Verifying.{FindsDamage, HasCause, IsNeverDamaged}
pub use Rattle.rollout_machine.proofs.Words.{added_artifacts, artifact_if}
