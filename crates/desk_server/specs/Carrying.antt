-- What an order comes to on a machine, from the opening of its desk to the exit status.
use Rattle.std.specs.Prelude.{◌≡◌, ℕ, Bool, List, [], ◌∷◌, Option, Result, IfOk, IfErr}
use Rattle.sqlite.specs.Files.{over_files}
use Rattle.sqlite.specs.Recovery.{Image}
use Rattle.sqlite_disk.specs.declared.Disk as disk
use Rattle.sqlite_store.specs.declared.store.FileStore.{FileStore}
use Rattle.sqlite_trees.specs.declared.store.Store.{Ghosts}
use Rattle.http_wire.specs.Watched.{inner_of, has_failed}
use Rattle.http_wire.specs.declared.watched.Watched.{Watched}
use Rattle.desk_opening.specs.declared.opening.OpenFault.{OpenFault}
use Rattle.desk_opening.specs.declared.path.PathLeftover.{PathLeftover}
use Rattle.rollout_machine.specs.Standing.{DeskState}
use Rattle.rollout_desk.specs.DeskStates.{desk_state}
use Rattle.desk_opening.specs.Reopening.{LeavesPath}
use Rattle.rollout_desk.specs.Openings.{ReopensDesk}
use Rattle.rollout_desk.specs.declared.desk.Desk.{Desk}
use Rattle.stream_server.specs.declared.interface.Interface.{Interface}
use Rattle.command_line.specs.declared.order.Order.{Order}
use Rattle.command_line.specs.declared.order.Order.TheVariants.{Run, Serve, Import, Report, Verify}
use Rattle.command_line.specs.Orders.{asks_approval, database_of}
use Rattle.desk_server.specs.Program.{CarriesOut, CarriesOutOn, Network, Tells, open_line}
use Rattle.desk_server.specs.Imports.{CarriesOutImport}
use Rattle.desk_server.specs.Refusals.{PathRefusal, refusal_of}
use Rattle.desk_server.specs.ReportOrders.{ReportsRollout}
use Rattle.desk_server.specs.Verifications.{Verifies}

-- what a reader has left or a writer holds, and whether a call of it failed
pub record Stream : Type 0 where
  pub bytes : Option (List ℕ)
  pub failed : Bool

abbrev pub seen : {T : Type 0} → (T → Option (List ℕ)) → Watched T → Stream
seen bytes_of it = record { bytes = bytes_of (inner_of it); failed = has_failed it }

-- The order's desk couldn't be opened: nothing is read or written, and the fault is told.
pub record LacksDesk (fault : OpenFault) (input input_new output output_new errors errors_new : Stream) (status : ℕ) : Type 0 where
  pub status_is : status ≡ 1
  pub unread : input_new ≡ input
  pub unwritten : output_new ≡ output
  pub tells : Tells errors.bytes errors_new.bytes errors_new.failed (open_line fault)

-- a port of 127.0.0.1, which nobody reaches from another machine, was taken or not, and so many of the connections to that port were served
abbrev pub ServesPort : {File C : Type 0} → (List ℕ → ℕ → Option C → Type 0) → Network C → ℕ → Interface → ℕ → DeskState File → DeskState File → Stream → Stream
    → ℕ
    → Type 0
ServesPort {C = C} listens net port interface connections old new errors errors_new status =
    (listener : Option C) × (after : Option C) × listens (127 ∷ 0 ∷ 0 ∷ 1 ∷ []) port listener
    × CarriesOutOn net interface listener after connections old new errors.bytes errors_new.bytes errors_new.failed status

-- the file at this path was read or not, and its targets were put
abbrev pub ImportsFile : {File : Type 0} → (List ℕ → Option (List ℕ) → Type 0) → List ℕ → DeskState File → DeskState File
    → Stream → Stream → Stream → Stream → ℕ → Type 0
ImportsFile reads path old new output output_new errors errors_new status =
    (file : Option (List ℕ)) × reads path file
    × CarriesOutImport file old new output.bytes output_new.bytes errors.bytes errors_new.bytes errors_new.failed output.failed output_new.failed status

-- the order was carried out over an opened desk: what each kind of order comes to
abbrev pub Does : {S C : Type 0} → (g : Ghosts S) → (List ℕ → Option (List ℕ) → Type 0) → (List ℕ → ℕ → Option C → Type 0) → Network C → Order → Desk S → Desk S
    → Stream → Stream → Stream → Stream → Stream → Stream → ℕ → Type 0
Does g reads listens net (Run setup) before after input input_new output output_new errors errors_new status =
    CarriesOut g setup before after input.bytes input_new.bytes output.bytes output_new.bytes errors.bytes errors_new.bytes errors_new.failed
    input.failed input_new.failed output.failed output_new.failed status
Does g reads listens net (Serve setup port connections) before after input input_new output output_new errors errors_new status =
    (input_new ≡ input) × (output_new ≡ output)
    × ServesPort listens net port setup.interface connections (desk_state g before) (desk_state g after) errors errors_new status
Does g reads listens net (Import db file) before after input input_new output output_new errors errors_new status =
    (input_new ≡ input)
    × ImportsFile reads file.now (desk_state g before) (desk_state g after) output output_new errors errors_new status
Does g reads listens net (Report db rollout) before after input input_new output output_new errors errors_new status =
    (input_new ≡ input)
    × ReportsRollout rollout (desk_state g before) (desk_state g after) output.bytes output_new.bytes
    errors.bytes errors_new.bytes errors_new.failed output.failed output_new.failed status
Does g reads listens net (Verify db) before after input input_new output output_new errors errors_new status =
    (input_new ≡ input)
    × Verifies g before after output.bytes output_new.bytes errors.bytes errors_new.bytes errors_new.failed output.failed output_new.failed status

-- The desk at the order's path was opened, with the order's approval where it is new, and the order was carried out over it: this desk is what
-- that left.
pub record LeavesDesk {D C : Type 0} (g : disk.Ghosts D) (image : Image) (reads : List ℕ → Option (List ℕ) → Type 0)
    (listens : List ℕ → ℕ → Option C → Type 0) (net : Network C) (order : Order) (input input_new output output_new errors errors_new : Stream) (status : ℕ)
    (after : Desk (FileStore D g)) : Type 0 where
  pub before : Desk (FileStore D g)
  pub opened : ReopensDesk image (desk_state over_files before) (asks_approval order)
  pub does : Does over_files reads listens net order before after input input_new output output_new errors errors_new status

-- The order was carried out over its desk, which is left as that says; or the host refused to open it, and that is told: then what is
-- left of its files is unharmed.
pub record CarriesOutOrder {D C : Type 0} (g : disk.Ghosts D) (image : List ℕ → Image) (refuses : List ℕ → Bool → PathRefusal D → Type 0)
    (reads : List ℕ → Option (List ℕ) → Type 0) (listens : List ℕ → ℕ → Option C → Type 0) (net : Network C) (order : Order)
    (input input_new output output_new errors errors_new : Stream) (status : ℕ)
    (left : Result (Desk (FileStore D g)) (OpenFault × PathLeftover D g)) : Type 0 where
  pub leaves : IfOk left (LeavesDesk g (image (database_of order)) reads listens net order input input_new output output_new errors errors_new status)
  pub refused : IfErr left (λ e. LeavesPath (image (database_of order)) (asks_approval order) e.0 e.1)
  pub told : IfErr left (λ e. refuses (database_of order) (asks_approval order) (refusal_of e))
  pub unopened : IfErr left (λ e. LacksDesk e.0 input input_new output output_new errors errors_new status)
