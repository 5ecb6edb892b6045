-- What the program tells, and its exit status.
use Rattle.std.specs.Prelude.{◌≡◌, ◌≤◌, ◌⊎◌, ℕ, Bool, true, false, List, [], ◌++◌, Option, Some, None, Result, Ok, Err, IfOk, IfErr, codes, is_some}
use Rattle.std.specs.Io.KnownBytes.{Appends}
use Rattle.sqlite_trees.specs.declared.store.Store.{Ghosts}
use Rattle.rollout_machine.specs.CommandList.{CommandList}
use Rattle.rollout_machine.specs.Standing.{DeskState, StandsFor, StaysStopped}
use Rattle.rollout_desk.specs.declared.desk.Desk.{Desk}
use Rattle.rollout_desk.specs.DeskStates.{desk_state}
use Rattle.desk_opening.specs.declared.opening.OpenFault.{OpenFault}
use Rattle.desk_opening.specs.declared.opening.OpenFault.TheVariants as open_fault
use Rattle.stream_server.specs.declared.interface.Interface.{Interface}
use Rattle.command_line.specs.declared.order.Setup.{Setup}
use Rattle.stream_server.specs.declared.listening.ListenFault.{ListenFault}
use Rattle.stream_server.specs.declared.listening.ListenFault.TheVariants as listen_fault
use Rattle.stream_server.specs.declared.served.Served.{Served}
use Rattle.stream_server.specs.declared.served.ServeFault.{ServeFault}
use Rattle.stream_server.specs.declared.served.ServeFault.TheVariants.{Read, Write, Store, Memory}
use Rattle.stream_server.specs.Headline.{FailsBy}
use Rattle.stream_server.specs.Arrivals.{Befalls, Event}
use Rattle.stream_server.specs.Listening.{ComesToEnd, Keeps, StopsAtStore}
use Rattle.stream_server.specs.Parts.{ServesStream}

-- the line of a fault
abbrev pub fault_line : ServeFault → List ℕ
fault_line Read = codes "fault 1 read\n"
fault_line Write = codes "fault 2 write\n"
fault_line Store = codes "fault 3 store\n"
fault_line Memory = codes "fault 4 memory\n"

-- the line of a desk that couldn't be opened
abbrev pub open_line : OpenFault → List ℕ
open_line open_fault.NotDesk = codes "open 1 not_desk\n"
open_line open_fault.NewerVersion = codes "open 2 newer_version\n"
open_line open_fault.Memory = codes "open 3 memory\n"
open_line open_fault.Store = codes "open 4 store\n"

-- the line of what ended the listening
abbrev pub listen_line : ListenFault → List ℕ
listen_line listen_fault.Store = codes "fault 3 store\n"
listen_line listen_fault.Net = codes "fault 5 net\n"

-- the exit status
abbrev pub status_of : {A F : Type 0} → Result A F → ℕ
status_of (Ok done) = 0
status_of (Err fault) = 1

-- a beginning of the text was written
abbrev pub WritesPart : Option (List ℕ) → Option (List ℕ) → List ℕ → Type 0
WritesPart old new text = (part : List ℕ) × (left : List ℕ) × (text ≡ part ++ left) × Appends old new part

-- the line was told; where telling fails, a beginning of it
abbrev pub Tells : Option (List ℕ) → Option (List ℕ) → Bool → List ℕ → Type 0
Tells old new telling_fails line = Appends old new line ⊎ ((telling_fails ≡ true) × WritesPart old new line)

-- nothing where it was done, and else the line of the fault
abbrev pub Reports : {A : Type 0} → Option (List ℕ) → Option (List ℕ) → Bool → Result A ServeFault → Type 0
Reports old new telling_fails (Ok done) = Appends old new []
Reports old new telling_fails (Err fault) = Tells old new telling_fails (fault_line fault)

-- The order `run` was carried out over an opened desk: its interface was served with this outcome, which gives the status, the line that is told
-- and the flags of input and output. After a failed store the desk is stopped, whatever it stood for.
pub record CarriesOut {S : Type 0} (g : Ghosts S) (setup : Setup) (before after : Desk S)
    (stream unread out out_new told told_new : Option (List ℕ)) (telling_fails failed_read reading_fails failed_write writing_fails : Bool)
    (status : ℕ) : Type 0 where
  pub interface : Interface
  pub named : interface ≡ setup.interface
  pub outcome : Result Served ServeFault
  pub serves : ServesStream interface (desk_state g before) (desk_state g after) stream unread out out_new outcome
  pub stops : IfErr outcome (λ fault. fault ≡ Store → (desk_state g after).is_stopped ≡ true)
  pub status_is : status ≡ status_of outcome
  pub reports : Reports told told_new telling_fails outcome
  pub read_failed : FailsBy outcome Read failed_read reading_fails
  pub write_failed : FailsBy outcome Write failed_write writing_fails

-- What is known of connections: what befell them up to now, and that no further one can be accepted.
pub record Network (C : Type 0) : Type 1 where
  pub has_seen : C → List Event → Type 0
  pub has_failed : C → Type 0

abbrev pub network : {C : Type 0} → (C → List Event → Type 0) → (C → Type 0) → Network C
network has_seen has_failed = record { has_seen = has_seen; has_failed = has_failed }

-- it holds of what befell the connections where the port was taken, and of nothing where it wasn't
abbrev pub BefallsAt : {C : Type 0} → Network C → Option C → Option C → (List Event → Type 0) → Type 0
BefallsAt net (Some old) (Some new) P = Befalls (net.has_seen old) (net.has_seen new) P
BefallsAt net (Some old) None P = ⊥
BefallsAt net None new P = P []

-- where the port was taken: so many connections came, or no further one can be accepted, or the store failed
abbrev pub EndsOf : {C : Type 0} → Network C → Option C → Option C → ℕ → Result ℕ ListenFault → Type 0
EndsOf net (Some old) (Some new) connections outcome = Befalls (net.has_seen old) (net.has_seen new) (ComesToEnd (net.has_failed new) connections outcome)
EndsOf net (Some old) None connections outcome = ⊥
EndsOf net None new connections outcome = Unit {0}

-- So many connections were served one after the other, or the port wasn't taken.
pub record Listens {File C : Type 0} (net : Network C) (interface : Interface) (listener after : Option C) (connections : ℕ)
    (old new : DeskState File) (outcome : Result ℕ ListenFault) : Type 0 where
  pub clean : new.is_clean → old.is_clean
  pub keeps : (h : CommandList) → new.is_clean → StandsFor old h → BefallsAt net listener after (λ events. Keeps interface new h events outcome)
  pub ends : EndsOf net listener after connections outcome
  pub store : StopsAtStore new outcome
  pub stopped : old.is_stopped ≡ true → StaysStopped old new
  pub counts : IfOk outcome (λ served. served ≤ connections)
  pub unbound : is_some listener ≡ false → outcome ≡ Err listen_fault.Net
  pub unserved : is_some listener ≡ false → (h : CommandList) → StandsFor old h → StandsFor new h

-- nothing where the connections were served, and else the line of what ended the listening
abbrev pub ReportsOn : Option (List ℕ) → Option (List ℕ) → Bool → Result ℕ ListenFault → Type 0
ReportsOn old new telling_fails (Ok served) = Appends old new []
ReportsOn old new telling_fails (Err fault) = Tells old new telling_fails (listen_line fault)

-- The order `serve` was carried out over an opened desk, with this outcome, which gives the status and the line that is told.
pub record CarriesOutOn {File C : Type 0} (net : Network C) (interface : Interface) (listener after : Option C) (connections : ℕ)
    (before now : DeskState File) (told told_new : Option (List ℕ)) (telling_fails : Bool) (status : ℕ) : Type 0 where
  pub outcome : Result ℕ ListenFault
  pub listens : Listens net interface listener after connections before now outcome
  pub status_is : status ≡ status_of outcome
  pub reports : ReportsOn told told_new telling_fails outcome
