-- Modules in records and in rows.
use Rattle.std.specs.Prelude.{◌≡◌, ◌&&◌, ℕ, Bool, [], ◌∷◌, ◌++◌, pos, Option, Some, None}
use Rattle.sqlite_value.specs.declared.value.Value.TheVariants.{Int}
use Rattle.sqlite_value.specs.Order.{Row, column}
use Rattle.rollout_machine.specs.Commands.{ModuleLabel}
use Rattle.rollout_machine.specs.ByteStrings.{same_bytes}
use Rattle.rollout_machine.specs.Records.{Records}

-- a module of the same name, kind and version
abbrev pub is_same : ModuleLabel → ModuleLabel → Bool
is_same label m = same_bytes m.name label.name && (same_bytes m.kind label.kind && same_bytes m.version label.version)

-- the records with one more module
abbrev pub with_module : Records → ModuleLabel → Records
with_module r m = record r { modules = r.modules ++ m ∷ [] }

-- no row, or the number of modules
abbrev pub IsLastRow : ℕ → Option Row → Type 0
IsLastRow n None = n ≡ 0
IsLastRow n (Some row) = column row 0 ≡ Int (pos n)
