-- Contents by the size that the table of artifacts tells, whatever rows the tables have.
use Rattle.std.specs.Prelude.{◌≡◌, ℕ, length, Result, IfOk}
use Rattle.sqlite.specs.Store.{Ghosts}
use Rattle.sqlite.specs.State.{HasCleanDisk}
use Rattle.sql_calls.specs.Standing.{Sees}
use Rattle.sql_calls.specs.declared.fault.Fault.{Fault}
use Rattle.rollout_machine.specs.Commands.{Bytes}
use Rattle.rollout_machine.specs.Replies.{Reply, ContentsShown}
use Rattle.rollout_machine.specs.Requests.{Query, Download, ShowContents}
use Rattle.rollout_model.specs.declared.artifact.Artifact.{Artifact}
use Rattle.desk_records.specs.Tables.{HoldsTables, Tables}
use Rattle.desk_records.specs.declared.artifact_row.StoredArtifact.{StoredArtifact}
use Rattle.desk_store.specs.Changing.{seen_in}
use Rattle.desk_store.specs.RawLists.{HasListed, HasNumbered}
use Rattle.sql_calls.specs.declared.calls.Calls.{Calls}

-- the artifact of a number and a module
pub record IsArtifactOf (t : Tables) (module_number number : ℕ) (a : StoredArtifact) : Type 0 where
  pub row : HasNumbered t number a
  pub module_is : a.module_number ≡ module_number

-- an artifact of a module and a name
pub record IsOfName (t : Tables) (module_number : ℕ) (filename : Bytes) (a : Artifact) : Type 0 where
  pub row : HasListed t module_number a
  pub name_is : a.filename ≡ filename

-- where these are contents
abbrev IfContents : Reply → (Bytes → Type 0) → Type 0
IfContents (ContentsShown contents) Is = Is contents
IfContents _ Is = Unit {0}

-- Contents that are shown are as many bytes as the row of an artifact tells: of the one that was asked for by its number, or of one that has the name.
abbrev pub KeepsSize : Tables → Query → Reply → Type 0
KeepsSize t (ShowContents m k) reply = IfContents reply (λ contents. (a : StoredArtifact) × IsArtifactOf t m k a × (a.size ≡ length contents))
KeepsSize t (Download device m filename) reply = IfContents reply (λ contents. (a : Artifact) × IsOfName t m filename a × (a.size ≡ length contents))
KeepsSize t _ reply = Unit {0}

module _ {S : Type 0} (g : Ghosts S) where
  -- at Ok the answer is true of the tables that the change saw before it
  pub record AgreesIn {A : Type 0} (old new : Calls S) (result : Result A Fault) (Answer : Tables → A → Type 0) : Type 0 where
    pub agrees : IfOk result (λ a. (t : Tables) → Sees HoldsTables (seen_in g old) t → HasCleanDisk (seen_in g new) → Answer t a)
