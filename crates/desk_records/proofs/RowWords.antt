-- Modules, sets and artifacts as the columns by which they are found, or of which they are shown.
use Rattle.std.specs.Prelude.{ℕ, List, [], ◌∷◌, map, pos}
use Rattle.sqlite_value.specs.declared.value.Value.TheVariants.{Int, Text}
use Rattle.sqlite_value.specs.Order.{Row}
use Rattle.rollout_machine.specs.Commands.{Bytes, ModuleLabel}
use Rattle.rollout_model.specs.declared.artifact.Artifact.{Artifact}
use Rattle.desk_records.proofs.WrittenRows.{shown_artifact}

abbrev pub words_of : ModuleLabel → Row
words_of m = Text m.name ∷ Text m.kind ∷ Text m.version ∷ []

-- a set's name and version
abbrev pub names_of : Bytes → Bytes → Row
names_of name version = Text name ∷ Text version ∷ []

-- one row for each of a set's modules, in its order
abbrev pub module_rows : List ℕ → List Row
module_rows ms = map (λ m. Int (pos m) ∷ []) ms

-- an artifact's module and filename
abbrev pub file_of : ℕ → Bytes → Row
file_of m filename = Int (pos m) ∷ Text filename ∷ []

-- one row for each artifact that is shown
abbrev pub shown_rows : List Artifact → List Row
shown_rows artifacts = map shown_artifact artifacts
