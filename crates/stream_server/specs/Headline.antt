-- What `serve` promises at every exit.
use Rattle.std.specs.Prelude.{All, ◌≡◌, ◌≢◌, ℕ, ◌-◌, ◌^◌, ◌<◌, ◌≤◌, ◌⊎◌, min, Bool, true, false, List, [], ◌∷◌, ◌++◌, length, IsSomeAnd, Option, Some, None}
use Rattle.std.specs.Prelude.{Result, Ok, Err}
use Rattle.std.specs.Io.KnownBytes.{Appends, Consumes, IsAtEnd}
use Rattle.http_wire.specs.declared.stream.End.{End}
use Rattle.http_wire.specs.declared.stream.End.TheVariants.{Input, Cut, Fault}
use Rattle.http_wire.specs.Messages.{IsUndecided, IsFault}
use Rattle.http_wire.specs.Streams.{Begins, EndsAs}
use Rattle.rollout_model.specs.declared.refusal.Refusal.{Refusal}
use Rattle.rollout_model.specs.declared.refusal.Refusal.TheVariants.{StoreFailed, Stopped}
use Rattle.rollout_machine.specs.Commands.{Bytes, Command}
use Rattle.rollout_machine.specs.CommandList.{CommandList, followed_by}
use Rattle.rollout_machine.specs.Repeats.{IsTraceless}
use Rattle.rollout_machine.specs.Replies.{Refused, ContentsShown}
use Rattle.std.specs.Option.{option_to_list}
use Rattle.rollout_machine.specs.Standing.{DeskState, StandsFor, StaysStopped}
use Rattle.stream_server.specs.declared.interface.Interface.{Interface}
use Rattle.stream_server.specs.declared.served.ServeFault.{ServeFault}
use Rattle.stream_server.specs.declared.served.ServeFault.TheVariants as serve_fault
use Rattle.stream_server.specs.declared.served.Served.{Served}
use Rattle.stream_server.specs.Interfaces.{end_text, reply_text}
use Rattle.stream_server.specs.Run.{Exchange, messages_of, accepted_in, texts_of, IsRun, ByMachine, GoesOn}

-- ---- what was read and written

-- how the stream ended: with this rest, and with nothing unread unless a fault was answered; it was cut, if the reader told its
-- bytes, and they are fewer than 2^64 - 1
abbrev pub Ended : Option (List ℕ) → Option (List ℕ) → List ℕ → End → Type 0
Ended stream unread rest (Fault fault) = IsFault rest fault
Ended stream unread rest Input = EndsAs rest Input × IsAtEnd unread
Ended stream unread rest Cut = IsSomeAnd stream (λ bytes. length bytes < 2 ^ 64 - 1) → EndsAs rest Cut × IsAtEnd unread

-- every message was answered, and every reply was written whole
pub record ExitsServed (stream unread : Option (List ℕ)) (run : List Exchange) (written rest : List ℕ) (served : Served) : Type 0 where
  pub all_written : written ≡ texts_of run ++ end_text served.end
  pub goes_on : GoesOn run
  pub answered : served.answered ≡ min (length run) (2 ^ 64 - 1)
  pub ended : Ended stream unread rest served.end

-- all replies but the last were written whole, and a beginning of the last, which is a download's, of at least one byte
pub record CutsDownload (run : List Exchange) (written : List ℕ) : Type 0 where
  pub before : List Exchange
  pub last : Exchange
  pub place : run ≡ before ++ last ∷ []
  pub contents : Bytes
  pub reply : last.reply ≡ ContentsShown contents
  pub part : List ℕ
  pub left : List ℕ
  pub begins : reply_text last.message last.reply ≡ part ++ left
  pub begun : 1 ≤ length part
  pub all_written : written ≡ texts_of before ++ part

-- the run ends in a failed store, whose command is in doubt
pub record EndsInDoubt (run : List Exchange) (lost : List Command) : Type 0 where
  pub before : List Exchange
  pub last : Exchange
  pub place : run ≡ before ++ last ∷ []
  pub reply : last.reply ≡ Refused StoreFailed
  pub command : lost ≡ option_to_list last.accepted

-- what each exit says of the replies and of the stream
abbrev pub Exits : Option (List ℕ) → Option (List ℕ) → List Exchange → List ℕ → List ℕ → Result Served ServeFault → Type 0
Exits stream unread run written rest (Ok served) = ExitsServed stream unread run written rest served
-- all messages that were given are answered
Exits stream unread run written rest (Err serve_fault.Read) = GoesOn run × (written ≡ texts_of run) × IsUndecided rest
Exits stream unread run written rest (Err serve_fault.Write) = Unit {0}
-- the last reply is that of a failed store and was written whole, as all before it
Exits stream unread run written rest (Err serve_fault.Store) =
    ((lost : List Command) × EndsInDoubt run lost × (written ≡ texts_of run)) ⊎ CutsDownload run written
-- all replies were written whole, or all but the last and nothing of that
Exits stream unread run written rest (Err serve_fault.Memory) =
    (GoesOn run × (written ≡ texts_of run))
    ⊎ (((before : List Exchange) × (last : Exchange) × (run ≡ before ++ last ∷ []) × (written ≡ texts_of before)) ⊎ CutsDownload run written)

-- an end that was answered is the stream's, and no store failed before it
abbrev pub AnswersEnd : List Exchange → List ℕ → End → Type 0
AnswersEnd run rest Input = Unit {0}
AnswersEnd run rest Cut = Unit {0}
AnswersEnd run rest (Fault fault) = GoesOn run × IsFault rest fault

-- what went in and out at an exit: a run of this kind on a first part of the messages, and a beginning of its reply bytes
pub record Transcript (IsRunOfDesk : List Exchange → Type 0) (stream unread out out_new : Option (List ℕ)) (result : Result Served ServeFault) : Type 0 where
  -- the bytes that the reader gave, and those that the writer took
  pub given : List ℕ
  pub reads : Consumes stream unread given
  pub written : List ℕ
  pub writes : Appends out out_new written
  -- what was given begins with the run's messages, and then comes a rest
  pub run : List Exchange
  pub is_run : IsRunOfDesk run
  pub rest : List ℕ
  pub messages : Begins given (messages_of run) rest
  pub end : End
  pub ends : AnswersEnd run rest end
  -- what was written begins the reply bytes
  pub unwritten : List ℕ
  pub begins : texts_of run ++ end_text end ≡ written ++ unwritten
  -- all replies but the last were written whole
  pub whole : (before : List Exchange) (last : Exchange) → run ≡ before ++ last ∷ [] → (more : List ℕ) × (written ≡ texts_of before ++ more)
  pub exit : Exits stream unread run written rest result

-- ---- what is kept

-- an accepted command whose reply is a success, of which at least one byte was written
pub record IsAcknowledged (run : List Exchange) (written : List ℕ) (before : List Exchange) (x : Exchange) (behind : List Exchange) : Type 0 where
  pub place : run ≡ before ++ x ∷ behind
  pub command : Command
  pub accepted : x.accepted ≡ Some command
  pub success : (refusal : Refusal) → x.reply ≢ Refused refusal
  pub begun : length (texts_of before) < length written

-- The file holds the list followed by a first part of the accepted commands: all of them, or all but the one in doubt.
-- Every acknowledged one is in it.
pub record HoldsFirstPart {File : Type 0} (s : DeskState File) (h : CommandList) (run : List Exchange) (written : List ℕ) (file : File) : Type 0 where
  pub kept : List Command
  pub lost : List Command
  pub parts : accepted_in run ≡ kept ++ lost
  pub in_doubt : (lost ≡ []) ⊎ EndsInDoubt run lost
  pub acknowledged : (before : List Exchange) (x : Exchange) (behind : List Exchange) → IsAcknowledged run written before x behind
      → (more : List Command) × (kept ≡ accepted_in before ++ option_to_list x.accepted ++ more)
  pub holds : s.holds file (followed_by h kept)

-- a desk is stopped after a failed store, perhaps after a failed write, and never else
abbrev pub Stops : Bool → Result Served ServeFault → Type 0
Stops is_stopped (Err serve_fault.Store) = is_stopped ≡ true
Stops is_stopped (Err serve_fault.Write) = Unit {0}
Stops is_stopped (Err serve_fault.Read) = is_stopped ≡ false
Stops is_stopped (Err serve_fault.Memory) = is_stopped ≡ false
Stops is_stopped (Ok served) = is_stopped ≡ false

-- For a desk that stood for h and has the state s now: what was written begins the reply bytes of a run of the rollout
-- machine on the stream's messages, and whatever a crash leaves holds h followed by a first part of the accepted
-- commands that contains every acknowledged one.
pub record Headline {File : Type 0} (interface : Interface) (h : CommandList) (s : DeskState File) (stream unread out out_new : Option (List ℕ))
    (result : Result Served ServeFault) : Type 0 where
  pub transcript : Transcript (IsRun (ByMachine interface) h) stream unread out out_new result
  -- the desk is stopped or stands for the list followed by the accepted commands
  pub desk : (s.is_stopped ≡ true) ⊎ StandsFor s (followed_by h (accepted_in transcript.run))
  -- what came again leaves no trace: this list and the one without its repeats have the same records, verdicts and answers
  pub traceless : s.is_stopped ≡ false → IsTraceless (followed_by h (accepted_in transcript.run))
  pub stops : Stops s.is_stopped result
  pub crash : (file : File) → s.may_leave file → HoldsFirstPart s h transcript.run transcript.written file

-- an exchange with a stopped desk: the message is refused as stopped, and nothing is accepted
abbrev pub IsRefusedAsStopped : Exchange → Type 0
IsRefusedAsStopped x = (x.reply ≡ Refused Stopped) × (x.accepted ≡ None)

-- For a desk that was stopped: each message is refused as stopped, and the desk and what a crash may leave stay.
pub record StoppedThroughout {File : Type 0} (old new : DeskState File) (stream unread out out_new : Option (List ℕ))
    (result : Result Served ServeFault) : Type 0 where
  pub transcript : Transcript (All IsRefusedAsStopped) stream unread out out_new result
  pub stays : StaysStopped old new

-- the flag of a reader or a writer: it is up where this fault came, and else as before
abbrev pub FailsBy : {A : Type 0} → Result A ServeFault → ServeFault → Bool → Bool → Type 0
FailsBy (Ok a) fault old new = new ≡ old
FailsBy (Err e) fault old new = (e ≡ fault → new ≡ true) × (e ≢ fault → new ≡ old)
