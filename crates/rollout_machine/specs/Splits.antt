-- How members are split into groups by percentages, each of what the groups before it leave.
use Rattle.std.specs.Prelude.{◌≡◌, ◌≤◌, ◌<◌, ℕ, ◌+◌, ◌-◌, ◌*◌, ◌/◌, nat_eq, cond, List, [], ◌∷◌, ◌++◌, length, take, Option, Some, None}
use Rattle.std.specs.List.{AllByRecursion}
use Rattle.rollout_machine.specs.Groups.{IsCut}
use Rattle.rollout_machine.specs.Ranges.{each_from}
use Rattle.rollout_machine.specs.declared.bounds.Bounds.{Bounds}

-- so many of those that are left, rounded up
abbrev pub share : ℕ → ℕ → ℕ
share rest percentage = (rest * percentage + 99) / 100

-- how many these groups leave, one after the other
abbrev pub left_by : ℕ → List ℕ → ℕ
left_by m [] = m
left_by m (p ∷ ps) = left_by (m - share m p) ps

-- the last position of group i
abbrev pub split_last : ℕ → List ℕ → ℕ → ℕ
split_last m ps i = m - left_by m (take i ps)

abbrev pub split_bounds_of : ℕ → List ℕ → ℕ → Bounds
split_bounds_of m ps i = record { first = split_last m ps (i - 1) + 1; last = split_last m ps i }

-- the bounds of all groups
abbrev pub split : ℕ → List ℕ → List Bounds
split m ps = each_from (split_bounds_of m ps) 1 (length ps)

-- the first group, numbered from i, before which nothing is left
abbrev pub first_empty_from : ℕ → ℕ → List ℕ → Option ℕ
first_empty_from i m [] = None
first_empty_from i m (p ∷ ps) = cond (nat_eq m 0) (Some i) (first_empty_from (i + 1) (m - share m p) ps)

abbrev pub first_empty : ℕ → List ℕ → Option ℕ
first_empty = first_empty_from 1

-- before each group somebody is left
abbrev pub LeavesNoneEmpty : ℕ → List ℕ → Type 0
LeavesNoneEmpty m ps = (i : ℕ) → i < length ps → 1 ≤ left_by m (take i ps)

-- Where the last group takes all that is left and none is empty, the groups follow one another from the first member to the last.
abbrev pub SplitCovers : Type 0
SplitCovers = (m : ℕ) (ps : List ℕ) → AllByRecursion (λ p. 1 ≤ p) ps → LeavesNoneEmpty m (ps ++ 100 ∷ [])
    → IsCut (split_last m (ps ++ 100 ∷ [])) m (length (ps ++ 100 ∷ []))

-- none is empty exactly where no group is the first empty one
abbrev pub FirstEmptyTells : Type 0
FirstEmptyTells = (m : ℕ) (ps : List ℕ) → first_empty m ps ≡ None → LeavesNoneEmpty m ps
