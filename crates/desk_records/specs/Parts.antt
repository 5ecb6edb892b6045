-- The rows of the parts of numbered records.
use Rattle.std.specs.Prelude.{ℕ, ◌+◌, List, [], ◌∷◌, ◌++◌, Option, Some, None, pos}
use Rattle.sqlite_value.specs.declared.value.Value.TheVariants.{Int}
use Rattle.sqlite_value.specs.Order.{Row}
use Rattle.sql_calls.specs.Keyed.{rows_from}
use Rattle.rollout_machine.specs.ByteStrings.{item_numbered}

-- A row for each part of each record: the k-th part of a record has place k. The first record has this number.
abbrev pub parts_from : {X : Type 0} → {Y : Type 0} → (ℕ → ℕ → Y → Row) → (X → List Y) → ℕ → List X → List Row
parts_from f parts n [] = []
parts_from f parts n (x ∷ xs) = rows_from (f n) 1 (parts x) ++ parts_from f parts (n + 1) xs

-- of a part at a place of the record of a number, with what else its row has
abbrev pub part_row : {Y : Type 0} → (Y → Row) → ℕ → ℕ → Y → Row
part_row rest n place y = Int (pos n) ∷ Int (pos place) ∷ rest y

-- the parts of a record, where it is there
abbrev pub parts_of : {X : Type 0} → {Y : Type 0} → (X → List Y) → Option X → List Y
parts_of parts None = []
parts_of parts (Some x) = parts x

-- ---- of records that are kept as the lists of their parts

abbrev pub listed_parts : {Y : Type 0} → (ℕ → ℕ → Y → Row) → List (List Y) → List Row
listed_parts {Y} f all = parts_from f (λ (its : List Y). its) 1 all

-- the parts of the record of a number, where it is there
abbrev pub parts_numbered : {Y : Type 0} → List (List Y) → ℕ → List Y
parts_numbered {Y} all number = parts_of (λ (its : List Y). its) (item_numbered all number)
