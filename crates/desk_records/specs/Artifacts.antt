-- Artifacts in records and in rows.
use Rattle.std.specs.Prelude.{◌≡◌, ◌≤◌, ◌&&◌, ℕ, ◌+◌, ◌-◌, ◌*◌, Bool, List, [], ◌∷◌, ◌++◌, map, length, nat_eq, pos, Option, Some, None}
use Rattle.sqlite_value.specs.declared.value.Value.TheVariants.{Null, Int, Text, Blob}
use Rattle.sqlite_value.specs.Order.{Row}
use Rattle.artifact_pieces.specs.Pieces.{pieces_of, piece_bytes}
use Rattle.rollout_model.specs.Limits.{limits}
use Rattle.rollout_machine.specs.ByteStrings.{same_bytes, item_numbered}
use Rattle.rollout_machine.specs.Commands.{Bytes}
use Rattle.rollout_machine.specs.Records.{ArtifactRecord, Records}
use Rattle.desk_records.specs.Parts.{parts_from}

-- ---- the rows

-- what is said of an artifact: module, filename, size and digest
abbrev pub told_of : ArtifactRecord → Row
told_of a = Int (pos a.module_number) ∷ Text a.filename ∷ Int (pos a.size) ∷ Blob a.digest ∷ []

-- of an artifact; its contents lie in the other table
abbrev pub artifact_row : ℕ → ArtifactRecord → Row
artifact_row number a = Int (pos number) ∷ Null ∷ told_of a

-- of a piece at a place in the sequence of the artifact of a number
abbrev pub piece_row : ℕ → ℕ → Bytes → Row
piece_row number sequence bytes = Int (pos number) ∷ Int (pos sequence) ∷ Blob bytes ∷ []

-- contents in pieces of the same length, the last of which may be shorter
abbrev pub pieces_in : Bytes → List Bytes
pieces_in contents = map (piece_bytes contents) (pieces_of (length contents))

-- of all pieces of artifacts that are numbered from a number on: the k-th piece of an artifact has place k
abbrev pub piece_rows_from : ℕ → List ArtifactRecord → List Row
piece_rows_from n artifacts = parts_from piece_row (λ (a : ArtifactRecord). pieces_in a.contents) n artifacts

-- ---- what is asked

-- an artifact of this module and filename
abbrev pub is_same_artifact : ℕ → Bytes → ArtifactRecord → Bool
is_same_artifact m filename a = nat_eq a.module_number m && same_bytes a.filename filename

abbrev pub pieces_of_artifact : Option ArtifactRecord → List Bytes
pieces_of_artifact None = []
pieces_of_artifact (Some a) = pieces_in a.contents

-- the piece at a place, counted from 1, of the artifact of a number
abbrev pub piece_numbered : List ArtifactRecord → ℕ → ℕ → Option Bytes
piece_numbered artifacts number sequence = item_numbered (pieces_of_artifact (item_numbered artifacts number)) sequence

-- ---- what is written

-- an artifact before its contents are added
abbrev pub artifact_filed : ℕ → Bytes → ℕ → Bytes → ArtifactRecord
artifact_filed m filename size digest = record { module_number = m; filename = filename; size = size; digest = digest; contents = [] }

-- the records with one more artifact, which has no contents yet
abbrev pub with_artifact : Records → ℕ → Bytes → ℕ → Bytes → Records
with_artifact r m filename size digest = record r { artifacts = r.artifacts ++ artifact_filed m filename size digest ∷ [] }

-- with these bytes at the end of its contents
abbrev pub and_piece : ArtifactRecord → Bytes → ArtifactRecord
and_piece a bytes = record a { contents = a.contents ++ bytes }

-- the artifact of this number is the last one, its contents so far are whole pieces, and these bytes are the next piece, at this place
pub record AddsPiece (number sequence : ℕ) (bytes : Bytes) (r next : Records) : Type 0 where
  pub before : List ArtifactRecord
  pub artifact : ArtifactRecord
  pub last : r.artifacts ≡ before ++ artifact ∷ []
  pub number_is : number ≡ length before + 1
  pub sequence_least : 1 ≤ sequence
  pub so_far : length artifact.contents ≡ (sequence - 1) * limits.piece_length
  pub bytes_least : 1 ≤ length bytes
  pub bytes_limit : length bytes ≤ limits.piece_length
  pub next_is : next ≡ record r { artifacts = before ++ and_piece artifact bytes ∷ [] }
