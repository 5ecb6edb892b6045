-- What the order `import` asks, what it comes to, and what is told of it.
use Rattle.std.specs.Prelude.{◌≡◌, ℕ, nat_le, if◌then◌else◌, Bool, true, List, [], length, Option, Some, None, codes}
use Rattle.std.specs.Io.KnownBytes.{Appends}
use Rattle.rollout_model.specs.Limits.{limits}
use Rattle.rollout_model.specs.declared.refusal.Refusal.TheVariants.{TooLarge}
use Rattle.rollout_machine.specs.CommandList.{CommandList}
use Rattle.rollout_machine.specs.Requests.{Asked, Rejected}
use Rattle.rollout_machine.specs.Standing.{DeskState, StandsFor, StaysStopped}
use Rattle.desk_files.specs.Imports.{targets_in_file}
use Rattle.mgmt_api.specs.Reading.{import_asked}
use Rattle.desk_server.specs.Program.{Tells}
use Rattle.desk_server.specs.Telling.{TellsReply}

-- a file asks that its targets are put; one over the limit is too large, whatever it says
abbrev pub asked_by_file : List ℕ → Asked
asked_by_file file = if nat_le (length file) limits.file_length then import_asked (targets_in_file file) else Rejected TooLarge

-- the line of a file that can't be read
abbrev pub file_line : List ℕ
file_line = codes "fault 6 file\n"

-- ---- the order

-- the desk gave its reply to what the file asks, and that reply is told
abbrev pub Imports : {File : Type 0} → List ℕ → DeskState File → DeskState File → Option (List ℕ) → Option (List ℕ)
    → Option (List ℕ) → Option (List ℕ) → Bool → Bool → Bool → ℕ → Type 0
Imports file = TellsReply (asked_by_file file)

-- The file couldn't be read: the desk stays as it was, and that is told.
pub record LacksFile {File : Type 0} (old new : DeskState File) (out out_new told told_new : Option (List ℕ))
    (telling_fails failed_write writing_fails : Bool) (status : ℕ) : Type 0 where
  pub clean : new.is_clean → old.is_clean
  pub stands : (h : CommandList) → StandsFor old h → StandsFor new h
  pub stays : old.is_stopped ≡ true → StaysStopped old new
  pub status_is : status ≡ 1
  pub unwritten : Appends out out_new []
  pub tells : Tells told told_new telling_fails file_line
  pub unfailed : writing_fails ≡ failed_write

-- the order `import` was carried out over an opened desk
abbrev pub CarriesOutImport : {File : Type 0} → Option (List ℕ) → DeskState File → DeskState File → Option (List ℕ) → Option (List ℕ)
    → Option (List ℕ) → Option (List ℕ) → Bool → Bool → Bool → ℕ → Type 0
CarriesOutImport None old new = LacksFile old new
CarriesOutImport (Some file) old new = Imports file old new
