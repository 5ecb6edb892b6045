-- The check of the pieces of one artifact.
use Rattle.std.specs.Prelude.{◌≡◌, ℕ, Bool, true, false, [], ◌∷◌, ◌++◌, length, Option, Some, None}
use Rattle.sha2.specs.Hashers.{Holds256}
use Rattle.sha2.specs.declared.Sha256.{Sha256}
use Rattle.artifact_pieces.specs.Digests.{digest_of}
use Rattle.rollout_machine.specs.Commands.{Bytes}
use Rattle.desk_records.specs.FoundPieces.{ArePieces}
use Rattle.desk_records.specs.Schema.{Pieces}
use Rattle.desk_records.specs.Tables.{Tables}
use Rattle.desk_verify.specs.Artifacts.{HasPieces}

-- a piece of this length lies there alone, and was hashed behind what was hashed before
pub record IsHashed (t : Tables) (number place size : ℕ) (old new : Sha256) : Type 0 where
  pub piece : Bytes
  pub long : length piece ≡ size
  pub lies : ArePieces (t Pieces) number place (piece ∷ [])
  pub hashed : (before : Bytes) → Holds256 old before → Holds256 new (before ++ piece)

-- it is, or no piece of this length lies there alone
abbrev pub HashesPiece : Tables → ℕ → ℕ → ℕ → Sha256 → Sha256 → Bool → Type 0
HashesPiece t number place size old new true = IsHashed t number place size old new
HashesPiece t number place size old new false = (piece : Bytes) → length piece ≡ size → ArePieces (t Pieces) number place (piece ∷ []) → ⊥

-- the artifact has the pieces of contents of this size and digest
pub record HasDigest (t : Tables) (number size : ℕ) (digest : Bytes) : Type 0 where
  pub contents : Bytes
  pub long : length contents ≡ size
  pub pieces : HasPieces t number contents
  pub is : digest ≡ digest_of contents

-- it has, or it has those of no contents of this size
abbrev pub HashesPieces : Tables → ℕ → ℕ → Option Bytes → Type 0
HashesPieces t number size (Some digest) = HasDigest t number size digest
HashesPieces t number size None = (contents : Bytes) → length contents ≡ size → HasPieces t number contents → ⊥
