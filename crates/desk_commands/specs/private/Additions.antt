-- What an addition rests on, and what it writes.
use Rattle.std.specs.Prelude.{◌≡◌, ◌≤◌, ℕ, ◌+◌, ◌*◌, Bool, List, [], ◌∷◌, ◌++◌, length}
use Rattle.std.specs.List.{list_any}
use Rattle.std.specs.Option.{is_none}
use Rattle.rollout_machine.specs.ByteStrings.{item_numbered}
use Rattle.rollout_machine.specs.Commands.{Bytes, SetLabel}
use Rattle.rollout_machine.specs.Records.{ArtifactRecord, Records}
use Rattle.rollout_model.specs.Limits.{limits}
use Rattle.rollout_model.specs.declared.artifact.Artifact.{Artifact}
use Rattle.desk_records.specs.Artifacts.{and_piece}

-- one of these modules isn't there
abbrev pub LacksModule : List ℕ → Records → Bool → Type 0
LacksModule modules r lacks = lacks ≡ list_any (λ m. is_none (item_numbered r.modules m)) modules

-- ---- sets

abbrev pub and_modules : SetLabel → List ℕ → SetLabel
and_modules set modules = record set { modules = set.modules ++ modules }

-- the set of this number is the last one and has so many modules; these come after them
pub record AddsModules (number before : ℕ) (modules : List ℕ) (r next : Records) : Type 0 where
  pub others : List SetLabel
  pub set : SetLabel
  pub last : r.sets ≡ others ++ set ∷ []
  pub number_is : number ≡ length others + 1
  pub before_is : before ≡ length set.modules
  pub next_is : next ≡ record r { sets = others ++ and_modules set modules ∷ [] }

-- the set gets the next number
abbrev pub AddsWhole : ℕ → SetLabel → Records → Records → Type 0
AddsWhole number label r next = (number ≡ length r.sets + 1) × (next ≡ record r { sets = r.sets ++ label ∷ [] })

-- ---- artifacts

-- the artifact of this number is the last one; these bytes come after as many whole pieces of its contents
pub record AddsContents (number before : ℕ) (bytes : Bytes) (r next : Records) : Type 0 where
  pub others : List ArtifactRecord
  pub artifact : ArtifactRecord
  pub last : r.artifacts ≡ others ++ artifact ∷ []
  pub number_is : number ≡ length others + 1
  pub so_far : 1 ≤ length bytes → length artifact.contents ≡ before * limits.piece_length
  pub next_is : next ≡ record r { artifacts = others ++ and_piece artifact bytes ∷ [] }

-- an artifact of a module, with its contents
abbrev pub artifact_kept : ℕ → Artifact → Bytes → ArtifactRecord
artifact_kept m artifact contents = record {
  module_number = m;
  filename = artifact.filename;
  size = artifact.size;
  digest = artifact.digest;
  contents = contents;
}

-- the artifact has the next number
abbrev pub AddsArtifact : ℕ → Artifact → Bytes → Records → Records → Type 0
AddsArtifact m artifact contents r next = (artifact.number ≡ length r.artifacts + 1)
    × (next ≡ record r { artifacts = r.artifacts ++ artifact_kept m artifact contents ∷ [] })
