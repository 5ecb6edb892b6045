-- The members of a rollout in the table of members, whatever rows it has.
use Rattle.std.specs.Prelude.{ℕ, Bool, List, Option, Some, None}
use Rattle.std.specs.List.Sorted.{IsNonDecreasingBy}
use Rattle.sqlite_value.specs.Order.{Row}
use Rattle.desk_records.specs.Listings.{AreBroken, AreSaid, has_at}
use Rattle.desk_records.specs.TableRows.{IsMember}
use Rattle.desk_records.specs.declared.member_row.PlacedMember.{PlacedMember}

-- the row is of this rollout
abbrev pub is_of : ℕ → Row → Bool
is_of rollout = has_at 1 rollout

abbrev pub SaysMember : ℕ → Row → PlacedMember → Type 0
SaysMember rollout row m = IsMember row rollout m.place m.id

-- all of them, in the order of their places
pub record AreMembers (rows : List Row) (rollout : ℕ) (members : List PlacedMember) : Type 0 where
  pub said : AreSaid rows (is_of rollout) (SaysMember rollout) members
  pub rise : IsNonDecreasingBy (λ (m : PlacedMember). m.place) members

-- or a row of it breaks a rule
abbrev pub ListsPlaces : List Row → ℕ → Option (List PlacedMember) → Type 0
ListsPlaces rows rollout (Some members) = AreMembers rows rollout members
ListsPlaces rows rollout None = AreBroken rows (is_of rollout) (SaysMember rollout)
