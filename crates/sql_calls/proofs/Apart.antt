-- Trees that no foreign key changes.
use Rattle.std.specs.Prelude.{◌≡◌, ℕ, []}
use Rattle.std.specs.List.{AllByRecursion}
use Rattle.sqlite.specs.Schema.{Schema}

-- no table that has its rows in this tree has a foreign key
abbrev pub HasNoForeignKey : Schema → ℕ → Type 0
HasNoForeignKey schema tree = AllByRecursion (λ t. t.tree ≡ tree → t.references ≡ []) schema.tables
