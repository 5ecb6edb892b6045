-- Distribution sets in records and in rows.
use Rattle.std.specs.Prelude.{◌≡◌, ◌&&◌, ℕ, ◌+◌, Bool, List, [], ◌∷◌, ◌++◌, length, pos}
use Rattle.sqlite_value.specs.declared.value.Value.TheVariants.{Null, Int, Text}
use Rattle.sqlite_value.specs.Order.{Row}
use Rattle.rollout_machine.specs.Commands.{Bytes, SetLabel}
use Rattle.rollout_machine.specs.ByteStrings.{same_bytes}
use Rattle.rollout_machine.specs.Records.{Records}
use Rattle.desk_records.specs.Parts.{parts_from}

-- ---- the rows

-- of a set; its modules lie in the other table
abbrev pub set_row : ℕ → SetLabel → Row
set_row number set = Int (pos number) ∷ Null ∷ Text set.name ∷ Text set.version ∷ []

-- of a module at a place of the set of a number
abbrev pub place_row : ℕ → ℕ → ℕ → Row
place_row number place m = Int (pos number) ∷ Int (pos place) ∷ Int (pos m) ∷ []

-- of all modules of sets that are numbered from a number on: the k-th module of a set has place k
abbrev pub place_rows_from : ℕ → List SetLabel → List Row
place_rows_from n sets = parts_from place_row (λ (set : SetLabel). set.modules) n sets

-- ---- what is asked and written

-- a set of this name and version
abbrev pub is_same_set : Bytes → Bytes → SetLabel → Bool
is_same_set name version set = same_bytes set.name name && same_bytes set.version version

-- a set before its modules are added
abbrev pub set_named : Bytes → Bytes → SetLabel
set_named name version = record { name = name; version = version; modules = [] }

-- with one module more, at the next place
abbrev pub and_module : SetLabel → ℕ → SetLabel
and_module set m = record set { modules = set.modules ++ m ∷ [] }

-- the records with one more set, which has no modules yet
abbrev pub with_set : Records → Bytes → Bytes → Records
with_set r name version = record r { sets = r.sets ++ set_named name version ∷ [] }

-- the set of this number is the last one, and has one more module, at this place
pub record AddsSetModule (number place m : ℕ) (r next : Records) : Type 0 where
  pub before : List SetLabel
  pub set : SetLabel
  pub last : r.sets ≡ before ++ set ∷ []
  pub number_is : number ≡ length before + 1
  pub place_is : place ≡ length set.modules + 1
  pub next_is : next ≡ record r { sets = before ++ and_module set m ∷ [] }
