-- How members are cut into groups.
use Rattle.std.specs.Prelude.{◌≡◌, ◌≤◌, ◌<◌, Bool, ◌&&◌, nat_le, ℕ, ◌+◌, ◌-◌, ◌*◌, ◌/◌, List}
use Rattle.rollout_machine.specs.declared.bounds.Bounds.{Bounds}
use Rattle.rollout_machine.specs.Ranges.{each_from}

-- where groups end: they follow one another, each of the n has a member, and the last ends with the last of m members
pub record IsCut (last : ℕ → ℕ) (m n : ℕ) : Type 0 where
  pub begins : last 0 ≡ 0
  pub rises : (i k : ℕ) → i ≤ k → last i ≤ last k
  pub grows : (i : ℕ) → i < n → last i + 1 ≤ last (i + 1)
  pub whole : last n ≡ m

-- the last position of group i of m members in n groups
abbrev pub last_position : ℕ → ℕ → ℕ → ℕ
last_position m n i = (i * m) / n

abbrev pub first_position : ℕ → ℕ → ℕ → ℕ
first_position m n i = last_position m n (i - 1) + 1

abbrev pub bounds_of : ℕ → ℕ → ℕ → Bounds
bounds_of m n i = record { first = first_position m n i; last = last_position m n i }

abbrev pub size_of_bounds : Bounds → ℕ
size_of_bounds b = (b.last + 1) - b.first

abbrev pub holds_position : ℕ → Bounds → Bool
holds_position j b = nat_le b.first j && nat_le j b.last

-- the bounds of all groups
abbrev pub cut : ℕ → ℕ → List Bounds
cut m n = each_from (bounds_of m n) 1 n
