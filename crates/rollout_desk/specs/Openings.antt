-- A desk over files that were opened, and the files that it gives back.
use Rattle.std.specs.Prelude.{Bool}
use Rattle.sqlite_disk.specs.declared.Disk as disk
use Rattle.sqlite_disk.specs.declared.Files.{Files}
use Rattle.sqlite.specs.Recovery.{Image}
use Rattle.sqlite.specs.Tree.{Trees}
use Rattle.sqlite.specs.WalFiles.{outcomes}
use Rattle.sqlite.specs.Closing.{HoldsAlone}
use Rattle.sqlite.specs.Files.{HoldsDatabase, AreFoundIn, image_of, over_files}
use Rattle.sqlite.specs.FileStore.{files as files_in}
use Rattle.sqlite_store.specs.declared.store.FileStore.{FileStore}
use Rattle.rollout_machine.specs.CommandList.{CommandList, Make}
use Rattle.rollout_machine.specs.Records.{records}
use Rattle.rollout_machine.specs.Standing.{DeskState, StandsFor}
use Rattle.rollout_machine.specs.Validity.{IsValid}
use Rattle.desk_opening.specs.Counting.{AreReadable}
use Rattle.desk_opening.specs.Reopening.{HoldsNone, IsOpenable, LeavesUnharmed}
use Rattle.desk_opening.specs.declared.opening.OpenFault.{OpenFault}
use Rattle.desk_opening.specs.declared.reopening.DeskLeftover.{DeskLeftover}
use Rattle.rollout_desk.specs.DeskStates.{desk_state}
use Rattle.rollout_desk.specs.declared.desk.Desk.{Desk}

-- Over files that hold a list the desk stands for that list, and over files that hold nothing, or a database that uses no name of a desk,
-- for the list of a new one.
-- No others are opened: neither a damaged file, nor one of another program, nor one with some of the tables.
pub record ReopensDesk (image : Image) (desk : DeskState Trees) (approval : Bool) : Type 0 where
  pub finds : desk.is_clean → (db : Trees) × AreFoundIn image db × IsOpenable db
  pub holds : (db : Trees) (h : CommandList) → ∥ HoldsDatabase image db ∥₁ → desk.holds db h → desk.is_clean → StandsFor desk h
  pub makes : HoldsNone HoldsDatabase image → desk.is_clean → StandsFor desk (Make approval)

module _ {D : Type 0} (g : disk.Ghosts D) (files : Files D) (approval : Bool) where
  -- a desk over these files
  abbrev pub ReopensFiles : Desk (FileStore D g) → Type 0
  ReopensFiles desk = ReopensDesk (image_of g files) (desk_state over_files desk) approval

  -- .. or what is left of them
  abbrev pub LeavesFiles : OpenFault × DeskLeftover D g → Type 0
  LeavesFiles refused = LeavesUnharmed (outcomes g files.log files.db) (image_of g files) approval refused.0 refused.1

-- Records of accepted commands keep the rules by which a migration reads rollouts, so the cause of an opening's failure has its premise.
abbrev pub RecordsCanBeMigrated : Type 0
RecordsCanBeMigrated = (h : CommandList) → IsValid h → AreReadable (records h)

-- ---- given back

-- The files hold what a crash might have left of the desk, as they read and whatever a crash leaves of them, with the log and without it.
-- So of a stopped desk too.
pub record GivesBack {D : Type 0} (g : disk.Ghosts D) (desk : DeskState Trees) (files : Files D) : Type 0 where
  pub file : Trees
  pub kept : desk.may_leave file
  pub seen : HoldsAlone (image_of g files) file
  pub left : (image : Image) → outcomes g files.log files.db image → HoldsAlone image file

-- ---- reopened after a crash

-- what a crash at this moment may leave of the two files of a desk
abbrev pub may_leave_files : {D : Type 0} {g : disk.Ghosts D} → Desk (FileStore D g) → Image → Type 0
may_leave_files {g = g} desk = let files = files_in desk.store.calls.conn.store in outcomes g files.0 files.1

-- each file that a crash may leave holds a list
abbrev pub AllHold : DeskState Trees → Type 0
AllHold desk = (file : Trees) → desk.may_leave file → (h : CommandList) × desk.holds file h

-- A file that a crash might have left of the old desk was opened, and the new one stands for whatever list it holds.
pub record GoesOn (old new : DeskState Trees) : Type 0 where
  pub file : Trees
  pub left : old.may_leave file
  pub stands : (h : CommandList) → old.holds file h → StandsFor new h

-- the same of a desk that was reopened over any of these images
abbrev pub GoesOnOver : (Image → Type 0) → DeskState Trees → DeskState Trees → Type 0
GoesOnOver images old new = (image : Image) → images image → (approval : Bool) → ReopensDesk image new approval → new.is_clean → ∥ GoesOn old new ∥₁

-- Whatever a crash leaves of the old desk's files, a desk that was reopened over it goes on.
abbrev pub GoesOnAfterCrash : {D : Type 0} {g : disk.Ghosts D} → Desk (FileStore D g) → DeskState Trees → Type 0
GoesOnAfterCrash old new = AllHold (desk_state over_files old) → GoesOnOver (may_leave_files old) (desk_state over_files old) new
