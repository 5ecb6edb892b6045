-- When the table of artifacts agrees, whatever rows it and the table of pieces have.
use Rattle.std.specs.Prelude.{◌≡◌, ℕ, ◌+◌, [], ◌∷◌, length, slice_get, Some}
use Rattle.sqlite_value.specs.Order.{Row}
use Rattle.sqlite_rules.specs.Lists.{Has}
use Rattle.artifact_pieces.specs.Digests.{digest_of}
use Rattle.rollout_machine.specs.Commands.{Bytes}
use Rattle.desk_records.specs.FoundPieces.{ArePieces}
use Rattle.desk_records.specs.Artifacts.{pieces_in}
use Rattle.desk_records.specs.Schema.{Artifacts, Pieces}
use Rattle.desk_records.specs.Tables.{Tables}
use Rattle.desk_records.specs.declared.checked_rows.CheckedArtifact.{CheckedArtifact}
use Rattle.desk_store.specs.RawLists.{SaysArtifact}

-- the pieces of the contents lie at the places of the artifact from 1 on, each alone at its place
abbrev pub HasPieces : Tables → ℕ → Bytes → Type 0
HasPieces t number contents =
    (k : ℕ) (piece : Bytes) → slice_get (pieces_in contents) k ≡ Some piece → ArePieces (t Pieces) number (k + 1) (piece ∷ [])

-- some contents have the size and the digest of the artifact, it has their pieces, and none behind the last
pub record IsWhole (t : Tables) (a : CheckedArtifact) : Type 0 where
  pub contents : Bytes
  pub size : length contents ≡ a.artifact.size
  pub digest : digest_of contents ≡ a.artifact.digest
  pub pieces : HasPieces t a.number contents
  pub end : ArePieces (t Pieces) a.number (length (pieces_in contents) + 1) []

-- the row is an artifact, and it is whole
pub record IsWholeRow (t : Tables) (row : Row) : Type 0 where
  pub artifact : CheckedArtifact
  pub is : SaysArtifact row artifact
  pub whole : IsWhole t artifact

abbrev pub AgreesArtifacts : Tables → Type 0
AgreesArtifacts t = (row : Row) → Has (t Artifacts) row → IsWholeRow t row
