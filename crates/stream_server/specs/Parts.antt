-- What the parts of `serve` do: a part of a run, from any list that the desk stands for. Of the functions in this crate alone.
use Rattle.std.specs.Prelude.{◌≡◌, ◌≢◌, ◌≤◌, ◌⊎◌, ℕ, length, Bool, true, List, [], ◌∷◌, ◌++◌, Option, Some, None, Result, Ok, Err}
use Rattle.std.specs.Io.KnownBytes.{Appends}
use Rattle.http_wire.specs.Messages.{WireMessage, IsUndecided, IsFault}
use Rattle.http_wire.specs.Streams.{Begins}
use Rattle.http_wire.specs.declared.fault.WireFault.{WireFault}
use Rattle.rollout_model.specs.declared.refusal.Refusal.{Refusal}
use Rattle.rollout_model.specs.declared.refusal.Refusal.TheVariants.{StoreFailed, Stopped}
use Rattle.rollout_machine.specs.Commands.{Bytes, Command}
use Rattle.rollout_machine.specs.CommandList.{CommandList, followed_by}
use Rattle.rollout_machine.specs.Replies.{Reply, Refused, ContentsShown}
use Rattle.std.specs.Option.{option_to_list}
use Rattle.rollout_machine.specs.Standing.{DeskState, StandsFor, IsInDoubt, StaysStopped}
use Rattle.stream_server.specs.declared.interface.Interface.{Interface}
use Rattle.stream_server.specs.declared.served.Served.{Served}
use Rattle.stream_server.specs.declared.served.ServeFault.{ServeFault}
use Rattle.stream_server.specs.declared.served.ServeFault.TheVariants as serve_fault
use Rattle.stream_server.specs.Interfaces.{reply_text}
use Rattle.stream_server.specs.Run.{Exchange, messages_of, accepted_in, texts_of, Answering, ByMachine, IsRun, GoesOn}
use Rattle.stream_server.specs.Headline.{Headline, StoppedThroughout}

-- the conduct of a desk: how it answers, and which of its states goes with which list
pub record Conduct (File : Type 0) : Type 1 where
  pub premise : DeskState File → Type 0
  pub answers : Answering
  pub stands : DeskState File → CommandList → Type 0

-- of a desk that stands for a list, on a clean disk
abbrev pub running : (File : Type 0) → Interface → Conduct File
running File interface = record { premise = λ s. s.is_clean; answers = ByMachine interface; stands = λ s h. StandsFor s h }

-- a stopped desk's: it refuses and accepts nothing
abbrev pub ByStopped : Answering
ByStopped h message reply accepted = (reply ≡ Refused Stopped) × (accepted ≡ None)

-- of a stopped one
abbrev pub stopped : (File : Type 0) → Conduct File
stopped File = record { premise = λ s. Unit {0}; answers = ByStopped; stands = λ s h. s.is_stopped ≡ true }

-- what the desk is after a reply
pub record GoesTo {File : Type 0} (C : Conduct File) (s : DeskState File) (h : CommandList) (reply : Reply) (accepted : Option Command) : Type 0 where
  pub in_doubt : reply ≡ Refused StoreFailed → IsInDoubt s h accepted
  pub stands : reply ≢ Refused StoreFailed → C.stands s (followed_by h (option_to_list accepted))

-- every message was answered, and every reply written whole
pub record Whole {File : Type 0} (C : Conduct File) (h : CommandList) (s : DeskState File) (ms : List WireMessage) (sent : List ℕ) : Type 0 where
  pub run : List Exchange
  pub messages : messages_of run ≡ ms
  pub is_run : IsRun C.answers h run
  pub goes_on : GoesOn run
  pub texts : sent ≡ texts_of run
  pub stands : C.stands s (followed_by h (accepted_in run))

-- at least one byte was written of the reply of a download
pub record BeginsDownload (reply : Reply) (accepted : Option Command) (part : List ℕ) : Type 0 where
  pub contents : Bytes
  pub shows : reply ≡ ContentsShown contents
  pub none : accepted ≡ None
  pub begun : 1 ≤ length part

-- how much of the last reply was written, and what the desk is then
abbrev pub CutsReply : {File : Type 0} → Conduct File → DeskState File → CommandList → ServeFault → Reply → Option Command → List ℕ → List ℕ → Type 0
CutsReply C s h serve_fault.Read reply accepted part left = ⊥
CutsReply C s h serve_fault.Write reply accepted part left = GoesTo C s h reply accepted
CutsReply C s h serve_fault.Store reply accepted part left =
    IsInDoubt s h accepted × (((reply ≡ Refused StoreFailed) × (left ≡ [])) ⊎ BeginsDownload reply accepted part)
CutsReply C s h serve_fault.Memory reply accepted part left =
    C.stands s (followed_by h (option_to_list accepted)) × ((part ≡ []) ⊎ BeginsDownload reply accepted part)

-- it stopped within the exchange for the last message
pub record Broken {File : Type 0} (C : Conduct File) (h : CommandList) (s : DeskState File) (ms : List WireMessage) (sent : List ℕ)
    (fault : ServeFault) : Type 0 where
  pub before : List Exchange
  pub last : Exchange
  pub messages : messages_of (before ++ last ∷ []) ≡ ms
  pub is_run : IsRun C.answers h (before ++ last ∷ [])
  pub goes_on : GoesOn before
  pub part : List ℕ
  pub left : List ℕ
  pub whole : reply_text last.message last.reply ≡ part ++ left
  pub texts : sent ≡ texts_of before ++ part
  pub cut : CutsReply C s (followed_by h (accepted_in before)) fault last.reply last.accepted part left

-- how answering ended: every message was answered, or it stopped within the last one's exchange
abbrev pub Comes : {File : Type 0} → Conduct File → CommandList → DeskState File → List WireMessage → List ℕ → Option ServeFault → Type 0
Comes C h s ms sent None = Whole C h s ms sent
Comes C h s ms sent (Some fault) = Broken C h s ms sent fault

-- these messages were answered, from any list
abbrev pub Answers : {File : Type 0} → Conduct File → DeskState File → DeskState File → Option (List ℕ) → Option (List ℕ) → List WireMessage
    → Option ServeFault → Type 0
Answers C old new out out_new ms fault =
    (h : CommandList) → C.premise new → C.stands old h → (sent : List ℕ) × Appends out out_new sent × Comes C h new ms sent fault

-- these messages were answered, by a desk that stands for a list or by a stopped one
pub record Serves {File : Type 0} (interface : Interface) (old new : DeskState File) (out out_new : Option (List ℕ)) (ms : List WireMessage)
    (fault : Option ServeFault) : Type 0 where
  pub clean : new.is_clean → old.is_clean
  pub by_machine : Answers (running File interface) old new out out_new ms fault
  pub by_stopped : Answers (stopped File) old new out out_new ms fault
  pub stays : old.is_stopped ≡ true → StaysStopped old new

-- the fault of a call
abbrev pub fault_of : {A : Type 0} → Result A ServeFault → Option ServeFault
fault_of (Ok a) = None
fault_of (Err fault) = Some fault

-- these messages were taken out of the inbox
abbrev pub Takes : List ℕ → List WireMessage → List ℕ → Type 0
Takes old ms new = (fed : List ℕ) (given : List WireMessage) → Begins fed given old → Begins fed (given ++ ms) new

-- neither a message nor, without a fault, a fault is next
abbrev pub StopsAt : List ℕ → Option WireFault → Type 0
StopsAt left None = IsUndecided left
StopsAt left (Some fault) = IsFault left fault

-- the whole text of the reply to a message, where it is no refusal
abbrev pub IsToldWhole : WireMessage → Reply → List ℕ → Type 0
IsToldWhole message reply text = ((refusal : Refusal) → reply ≢ Refused refusal) → text ≡ reply_text message reply

-- a reply of this text, of which a part was written
abbrev pub SendsPart : Option (List ℕ) → Option (List ℕ) → List ℕ → Reply → Bool → ServeFault → Type 0
SendsPart old new text reply failed serve_fault.Read = ⊥
SendsPart old new text reply failed serve_fault.Store = ⊥
SendsPart old new text reply failed serve_fault.Write = (failed ≡ true) × (part : List ℕ) × (left : List ℕ) × (text ≡ part ++ left) × Appends old new part
SendsPart old new text reply failed serve_fault.Memory = (reply ≢ Refused StoreFailed) × Appends old new []

-- what became of the reply that the desk gave: it was written whole, and after it the store's fault is told where it says so; or a part of it was written
abbrev pub GivesReply : Option (List ℕ) → Option (List ℕ) → List ℕ → Reply → Bool → Option ServeFault → Type 0
GivesReply old new text reply failed None = Appends old new text × (reply ≢ Refused StoreFailed)
GivesReply old new text reply failed (Some serve_fault.Store) = Appends old new text × (reply ≡ Refused StoreFailed)
GivesReply old new text reply failed (Some fault) = SendsPart old new text reply failed fault

-- what `serve` promises of a desk that stands for a list, and of a stopped one, as one record
pub record ServesStream {File : Type 0} (interface : Interface) (old new : DeskState File) (stream unread out out_new : Option (List ℕ))
    (result : Result Served ServeFault) : Type 0 where
  pub clean : new.is_clean → old.is_clean
  pub headline : (h : CommandList) → new.is_clean → StandsFor old h → Headline interface h new stream unread out out_new result
  pub stopped : old.is_stopped ≡ true → StoppedThroughout old new stream unread out out_new result
