-- From what a crash leaves of a desk's files to the desk that is reopened over it.
use Rattle.rollout_desk.proofs.Common.{◌≡◌, Bool, IsTrue, sym, subst, ◌∙◌, arith, Files, Image, Trees, AreClean, FileStore, files, recovers, view}
use Rattle.rollout_desk.proofs.Common.{faults}
use Rattle.rollout_desk.proofs.Common.{is_shielded, Held, AreDatabases, State, HoldsDatabase, file_state, HoldsRecords, DeskState, AllHold, GoesOnOver}
use Rattle.rollout_desk.specs.Desks.{Known, desk_state_knowing}
use Rattle.std.proofs.Math.Logic.{∥∥₁_map}
use Rattle.sqlite_disk.specs.declared.Disk.{Ghosts}
use Rattle.sqlite.specs.WalFiles.{outcomes}
use Rattle.sqlite_trees.specs.View.{IsClean, IsQuiet, IsRolledBack}
use Rattle.sqlite_trees.proofs.Doubt.{no_doubt, clean_of}
use Rattle.sqlite_pool.proofs.StateLemmas.{clean_is, may_leave_is}
use Rattle.sqlite.proofs.Theorems.{opens_again}

-- an open of each image finds a file that a crash may leave
abbrev LeavesFiles : State → (Image → Type 0) → Type 0
LeavesFiles s images = (image : Image) → images image → ∥ ((file : Trees) × s.may_leave file × HoldsDatabase image file) ∥₁

module _ (known : Known) (stopped : Bool) (s : State) (images : Image → Type 0) (leaves : LeavesFiles s images) (knows : Known) (running : Bool)
    (t : State)
  where
    goes_on : GoesOnOver images (desk_state_knowing HoldsRecords known stopped s) (desk_state_knowing HoldsRecords knows running t)
    goes_on image may approval reopens clean =
        ∥∥₁_map (leaves image may) (λ it. record { file = it.0; left = it.1; stands = λ h held. reopens.holds it.0 h ∣ it.2 ∣₁ held clean })

-- what holds a list is a database
are_databases : (known : Known) (stopped : Bool) (s : State) → AllHold (desk_state_knowing HoldsRecords known stopped s) → AreDatabases s.may_leave
are_databases known stopped s all file may = let (schema, (v, holds)) = (all file may).1.1 in (schema, holds.sound)

module _ {D : Type 0} {g : Ghosts D} (given old : Held (FileStore D g)) (same : given ≡ old) (now : FileStore D g) (back : Files D)
    (is : (back.log, back.db) ≡ files now)
    (numbered : IsClean (view now) → IsTrue (view now).is_numbered) (sound : IsClean (view now) → AreDatabases (recovers now))
    (undone : IsRolledBack (view given.store) (view now)) (quiet : IsQuiet view faults recovers is_shielded given.store now)
    (clean : AreClean g back.log back.db) (known : Known) (stopped : Bool) where
  sure : IsClean (view now)
  sure = no_doubt _ (clean_is now.pool ∙ subst (λ p. AreClean g p.0 p.1) is clean)

  left_after : LeavesFiles (file_state given) (outcomes g back.log back.db)
  left_after image may =
      let here = may_leave_is now.pool image (subst (λ p. AreClean g p.0 p.1) is clean) (subst (λ p. outcomes g p.0 p.1 image) is may) in
      ∥∥₁_map (opens_again now (numbered sure) (sound sure) image here) (λ it. (it.0, quiet.outcomes it.0 it.1, it.2))

  left_before : AreDatabases (recovers given.store) → LeavesFiles (file_state given) (outcomes g (files given.store).0 (files given.store).1)
  left_before are image may =
      let was : IsClean (view given.store) = omega (arith, quiet.clean, sure) in
      let here = may_leave_is given.store.pool image (sym (clean_is given.store.pool) ∙ clean_of _ was) may in
      opens_again given.store (sym undone.numbered ∙ numbered sure) are image here

  module _ (knows : Known) (running : Bool) (t : State) where
    abbrev Next : DeskState Trees
    Next = desk_state_knowing HoldsRecords knows running t

    pub goes_on_after : GoesOnOver (outcomes g back.log back.db) (desk_state_knowing HoldsRecords known stopped (file_state old)) Next
    goes_on_after =
        subst (λ c. GoesOnOver (outcomes g back.log back.db) (desk_state_knowing HoldsRecords known stopped (file_state c)) Next) same
        (goes_on known stopped (file_state given) _ left_after knows running t)

    pub goes_on_before : AllHold (desk_state_knowing HoldsRecords known stopped (file_state old))
        → GoesOnOver (outcomes g (files old.store).0 (files old.store).1) (desk_state_knowing HoldsRecords known stopped (file_state old)) Next
    goes_on_before =
        subst (λ c. AllHold (desk_state_knowing HoldsRecords known stopped (file_state c))
        → GoesOnOver (outcomes g (files c.store).0 (files c.store).1) (desk_state_knowing HoldsRecords known stopped (file_state c)) Next) same
        (λ all. goes_on known stopped (file_state given) _ (left_before (are_databases known stopped (file_state given) all)) knows running t)
