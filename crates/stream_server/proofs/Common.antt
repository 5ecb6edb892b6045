-- The names of other modules that the proofs here cite, passed on from one place. Declares nothing.
pub use Rattle.std.proofs.Common.{◌≡◌, ℕ, ◌+◌, ◌-◌, ◌^◌, ◌<◌, ◌≤◌, min, Bool, true, false, cond, not, ◌&&◌, ◌≢◌, ◌⊎◌, List, [], ◌∷◌, ◌++◌, length, take, drop}
pub use Rattle.std.proofs.Common.{IfOk, IfErr, nat_lt, slice_get, Some, None, Ok, Err, codes, All, Option, Result, Vec, bytes_eq, sym, refl, ap, ◌∙◌, subst}
pub use Rattle.std.proofs.Common.{inl, inr, append_assoc, append-nil, arith, length-append, take-append-drop, rules}
pub use Rattle.std.proofs.KnownBytes.{Appends-nil, Appends-trans, Consumes-nil, Consumes-trans}
pub use Rattle.std.proofs.lemmas.Bool.{false≢true}
pub use Rattle.std.proofs.lemmas.List.Elements.{All-cons, All-head, All-nil, All-tail}
pub use Rattle.std.proofs.lemmas.Result.{IfErr-weaker, err_from_is_err_and}
pub use Rattle.std.specs.Io.KnownBytes.{Appends, Consumes, IsAtEnd}
pub use Rattle.rollout_model.specs.declared.refusal.Refusal.{Refusal}
pub use Rattle.rollout_model.specs.declared.refusal.Refusal.TheVariants.{NoMemory, Stopped, StoreFailed}
pub use Rattle.rollout_machine.specs.Answers.{MayAnswer}
pub use Rattle.rollout_machine.specs.CommandList.{CommandList, Make, followed_by, ◌▸◌}
pub use Rattle.rollout_machine.specs.Commands.{Bytes, Command}
pub use Rattle.rollout_machine.specs.Replies.{ContentsShown, Refused, Reply}
pub use Rattle.rollout_machine.specs.Requests.{Asked, Asks, Rejected}
pub use Rattle.std.specs.Option.{option_to_list as one}
pub use Rattle.rollout_machine.specs.Standing.{Applies, AppliesAt, DeskState, IsInDoubt, StandsFor, StaysStopped}
pub use Rattle.request_handler.specs.Downloads.{HandsPieces, Sends, sent}
pub use Rattle.http_wire.specs.Inbox.{message_of}
pub use Rattle.http_wire.specs.Messages.{IsFault, IsUndecided, WireMessage}
pub use Rattle.http_wire.specs.Streams.{Begins}
pub use Rattle.http_wire.specs.Watched.{has_failed, inner_of}
pub use Rattle.http_wire.specs.declared.stream.End.{End}
pub use Rattle.http_wire.specs.declared.stream.End.TheVariants.{Cut, Fault, Input}
pub use Rattle.mgmt_api.specs.Routes.{manage_table}
pub use Rattle.request_target.specs.Routes.{route_of}
pub use Rattle.stream_server.specs.Headline.{AnswersEnd, CutsDownload, Exits, Headline, HoldsFirstPart, IsRefusedAsStopped, StoppedThroughout, Stops}
pub use Rattle.stream_server.specs.Headline.{Transcript}
pub use Rattle.stream_server.specs.Interfaces.{end_text, is_for_devices, reading, reply_text}
pub use Rattle.stream_server.specs.Listening.{Keeps, KeepsOn, StopsAtStore}
pub use Rattle.stream_server.specs.Parts.{Answers, BeginsDownload, Broken, ByStopped, Comes, Conduct, CutsReply, GivesReply, IsToldWhole}
pub use Rattle.stream_server.specs.Parts.{SendsPart, Serves, ServesStream, Takes, Whole, running, stopped}
pub use Rattle.stream_server.specs.Run.{Answering, Exchange, GoesOn, IsRun, accepted_in, messages_of, texts_of}
pub use Rattle.stream_server.specs.declared.interface.Interface.{Interface}
pub use Rattle.stream_server.specs.declared.served.ServeFault.{ServeFault}
pub use Rattle.stream_server.specs.declared.served.Served.{Served}
