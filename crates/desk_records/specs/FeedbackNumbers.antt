-- The numbers that devices give their feedback, in records and in rows.
use Rattle.std.specs.Prelude.{ℕ, ◌+◌, List, [], ◌∷◌, ◌++◌, length, Option, Some, None, pos}
use Rattle.std.specs.List.{last_or}
use Rattle.std.specs.Option.{option_map}
use Rattle.sqlite_value.specs.declared.value.Value.TheVariants.{Int}
use Rattle.sqlite_value.specs.Order.{Row}
use Rattle.rollout_machine.specs.Reports.{Reported}
use Rattle.rollout_machine.specs.declared.records.ActionRecord.{ActionRecord}
use Rattle.desk_records.specs.Parts.{listed_parts, part_row, parts_numbered}
use Rattle.desk_records.specs.declared.number_row.LastNumber.{LastNumber}
use Rattle.desk_records.specs.declared.number_row.PlacedNumber.{PlacedNumber}

-- ---- in records

-- of an entry at this place of the sequence, where it bears one
abbrev pub borne_at : ℕ → Option ℕ → List PlacedNumber
borne_at sequence None = []
borne_at sequence (Some number) = record { sequence = sequence; number = number } ∷ []

-- of the entries that bear one, the first of which has this place in the sequence
abbrev pub numbers_from : ℕ → List Reported → List PlacedNumber
numbers_from sequence [] = []
numbers_from sequence (r ∷ more) = borne_at sequence r.number ++ numbers_from (sequence + 1) more

abbrev pub numbers_of : ActionRecord → List PlacedNumber
numbers_of a = numbers_from 1 a.history

-- ---- in rows

abbrev pub told_number : PlacedNumber → Row
told_number it = Int (pos it.sequence) ∷ Int (pos it.number) ∷ []

abbrev pub number_row : ℕ → ℕ → PlacedNumber → Row
number_row = part_row told_number

-- of the numbers of each action
abbrev pub number_rows : List (List PlacedNumber) → List Row
number_rows = listed_parts number_row

-- ---- what is asked

-- of one action, where it is there
abbrev pub numbers_numbered : List (List PlacedNumber) → ℕ → List PlacedNumber
numbers_numbered = parts_numbered

-- the last of these, with its place among them
abbrev pub last_number : List PlacedNumber → Option LastNumber
last_number its = option_map (λ it. record { place = length its; it = it }) (last_or None its)
