-- What a desk is after connections, one after the other, by what each gave and by what was written to it.
use Rattle.std.specs.Prelude.{All, ◌≡◌, ◌≢◌, ◌⊎◌, ℕ, ◌+◌, Bool, true, false, List, [], ◌∷◌, ◌++◌, length, Result, Ok, Err, is_ok}
use Rattle.std.specs.List.{filter, flat_map}
use Rattle.rollout_machine.specs.Commands.{Command}
use Rattle.rollout_machine.specs.CommandList.{CommandList, followed_by}
use Rattle.rollout_machine.specs.Repeats.{IsTraceless}
use Rattle.rollout_machine.specs.Standing.{DeskState, StandsFor}
use Rattle.stream_server.specs.declared.interface.Interface.{Interface}
use Rattle.stream_server.specs.declared.listening.ListenFault.{ListenFault}
use Rattle.stream_server.specs.declared.listening.ListenFault.TheVariants as listen_fault
use Rattle.stream_server.specs.declared.served.Served.{Served}
use Rattle.stream_server.specs.declared.served.ServeFault.{ServeFault}
use Rattle.stream_server.specs.declared.served.ServeFault.TheVariants as serve_fault
use Rattle.stream_server.specs.Arrivals.{Came, Event, Socket, Went, arrivals_in, is_of_given}
use Rattle.stream_server.specs.Headline.{EndsInDoubt, FailsBy, IsRefusedAsStopped, Stops, Transcript}
use Rattle.stream_server.specs.Run.{ByMachine, Exchange, IsRun, accepted_in}

-- A connection that was served: as it came and as it went; how serving it ended; the exchanges; and whether the desk was stopped before it, and is
-- after it.
pub record Talk : Type 0 where
  pub came : Socket
  pub went : Socket
  pub outcome : Result Served ServeFault
  pub run : List Exchange
  pub was_stopped : Bool
  pub is_stopped : Bool

-- the commands that were accepted over connections
abbrev pub accepted_over : List Talk → List Command
accepted_over talks = flat_map (λ (t : Talk). accepted_in t.run) talks

-- it came, and went before the next one came
abbrev pub passage : Talk → List Event
passage t = Came t.came ∷ Went t.went ∷ []

-- how many were served to their end
abbrev pub whole_in : List Talk → ℕ
whole_in talks = length (filter (λ (t : Talk). is_ok t.outcome) talks)

-- no store failed
abbrev pub NoneFailed : List Talk → Type 0
NoneFailed talks = All (λ (t : Talk). t.outcome ≢ Err serve_fault.Store) talks

-- What is told of connections: how many were served to their end, where no store failed; that one failed, which ended the last of them; or that no
-- further one can be accepted.
abbrev pub TellsOf : List Talk → Result ℕ ListenFault → Type 0
TellsOf talks (Ok served) = NoneFailed talks × (served ≡ whole_in talks)
TellsOf talks (Err listen_fault.Net) = NoneFailed talks
TellsOf talks (Err listen_fault.Store) =
    (before : List Talk) × (last : Talk) × (talks ≡ before ++ last ∷ []) × NoneFailed before × (last.outcome ≡ Err serve_fault.Store)

-- each message of a connection is answered by the rollout machine at the list so far, as the interface reads it; of a desk that was stopped before
-- it, each is refused as stopped
abbrev pub AnswersBy : Interface → Bool → CommandList → List Exchange → Type 0
AnswersBy interface false h run = IsRun (ByMachine interface) h run
AnswersBy interface true h run = All IsRefusedAsStopped run

-- a connection stops a desk only where the store failed, or a write to it did; and none lets a stopped one go on
abbrev pub StopsBy : Bool → Bool → Result Served ServeFault → Type 0
StopsBy false is_stopped outcome = Stops is_stopped outcome
StopsBy true is_stopped outcome = is_stopped ≡ true

-- whether the desk is stopped after the last of them
abbrev pub stopped_after : Bool → List Talk → Bool
stopped_after stopped [] = stopped
stopped_after stopped (t ∷ ts) = stopped_after t.is_stopped ts

-- nothing, or the command in doubt of one of the connections
abbrev pub LosesInDoubt : List Talk → List Command → Type 0
LosesInDoubt talks lost =
    (lost ≡ []) ⊎ ((before : List Talk) × (t : Talk) × (behind : List Talk) × (talks ≡ before ++ t ∷ behind) × EndsInDoubt t.run lost)

module _ (interface : Interface) where
  -- The exchanges of a connection are on the messages that it gave between coming and going, and what was written to it begins the bytes of their
  -- replies. It ended by a fault of reading or writing only where a read or a write of it failed.
  pub record IsServed (h : CommandList) (t : Talk) : Type 0 where
    pub transcript : Transcript (λ run. (run ≡ t.run) × AnswersBy interface t.was_stopped h run) t.came.unread t.went.unread t.came.written t.went.written
        t.outcome
    pub read_failed : FailsBy t.outcome serve_fault.Read t.came.read_failed t.went.read_failed
    pub write_failed : FailsBy t.outcome serve_fault.Write t.came.write_failed t.went.write_failed
    pub stops : StopsBy t.was_stopped t.is_stopped t.outcome

  -- one connection after the other, each at the list so far, and by a desk that is stopped or not as the one before left it
  abbrev pub AreServed : Bool → CommandList → List Talk → Type 0
  AreServed stopped h [] = Unit {0}
  AreServed stopped h (t ∷ ts) = (t.was_stopped ≡ stopped) × IsServed h t × AreServed t.is_stopped (followed_by h (accepted_in t.run)) ts

  -- Connections were served one after the other: all that were given out, and no others, as these events tell. The desk is stopped or stands for the
  -- list followed by what was accepted over them, and whatever a crash leaves holds the list followed by a first part of that: all, or all but what
  -- is in doubt.
  pub record Keeps {File : Type 0} (s : DeskState File) (h : CommandList) (events : List Event) (result : Result ℕ ListenFault) : Type 0 where
    pub talks : List Talk
    pub all : filter is_of_given events ≡ flat_map passage talks
    -- the desk stood for the list before the first, so it wasn't stopped
    pub served : AreServed false h talks
    pub told : TellsOf talks result
    pub stopped : stopped_after false talks ≡ s.is_stopped
    pub desk : (s.is_stopped ≡ true) ⊎ StandsFor s (followed_by h (accepted_over talks))
    -- what came again leaves no trace
    pub traceless : s.is_stopped ≡ false → IsTraceless (followed_by h (accepted_over talks))
    pub crash : (file : File) → s.may_leave file → (kept : List Command) × (lost : List Command) × (accepted_over talks ≡ kept ++ lost)
        × LosesInDoubt talks lost × s.holds file (followed_by h kept)

-- the store failed only where the desk is stopped
abbrev pub StopsAtStore : {A : Type 0} {File : Type 0} → DeskState File → Result A ListenFault → Type 0
StopsAtStore s (Err listen_fault.Store) = s.is_stopped ≡ true
StopsAtStore s (Err listen_fault.Net) = Unit {0}
StopsAtStore s (Ok a) = Unit {0}

-- So many connections came; or no further one can be accepted; or the store failed, which ends it in any case.
abbrev pub ComesToEnd : {A : Type 0} → Type 0 → ℕ → Result A ListenFault → List Event → Type 0
ComesToEnd has_failed count (Ok a) events = arrivals_in events ≡ count
ComesToEnd has_failed count (Err listen_fault.Net) events = has_failed
ComesToEnd has_failed count (Err listen_fault.Store) events = Unit {0}

-- ---- one connection

-- what is told of one: whether it was served to its end, or that the store failed
abbrev pub told_of : Result Served ServeFault → Result Bool ListenFault
told_of (Ok served) = Ok true
told_of (Err serve_fault.Store) = Err listen_fault.Store
told_of (Err serve_fault.Read) = Ok false
told_of (Err serve_fault.Write) = Ok false
told_of (Err serve_fault.Memory) = Ok false

-- one more is counted, if it was served to its end
abbrev pub counted : ℕ → Result Bool ListenFault → Result ℕ ListenFault
counted n (Ok true) = Ok (n + 1)
counted n (Ok false) = Ok n
counted n (Err fault) = Err fault

-- Every list that was kept is kept, with these events behind those before.
abbrev pub KeepsOn : {File : Type 0} → Interface → DeskState File → DeskState File → Result Bool ListenFault → List Event → Type 0
KeepsOn interface old new result events = (h : CommandList) (past : List Event) (n : ℕ)
    → new.is_clean → Keeps interface old h past (Ok n) → Keeps interface new h (past ++ events) (counted n result)
