-- What the reads of the table of members come to.
use Rattle.desk_verify.proofs.Common.{arith, ◌≡◌, ℕ, List, length, nat_eq, AreMembers, Members, Tables, PlacedMember, is_at, number_in_is}
use Rattle.desk_verify.proofs.Common.{number_in_least, SettlesWhether, follow, AreAllChecked, JudgesOne, AgreesMembers, IsInPlace, IsThere}
use Rattle.std.specs.Bool.{then_some}
use Rattle.desk_verify.proofs.Follow.{agreeing, in_place}
use Rattle.desk_verify.proofs.RolloutLemmas.{decided, judged}

-- ---- one rollout

pub judged_members : (t : Tables) (r : ℕ) (members : List PlacedMember) (count : ℕ) → IsThere t r → AreMembers (t Members) r members → count ≡ length members
    → JudgesOne Members 1 IsInPlace (λ t r. Unit) AgreesMembers t r (then_some (follow 0 members) count)
judged_members t r members count there are is = grind (arith, judged, in_place, agreeing)

-- ---- all of them

-- the members of all rollouts that are there, where there are no more
pub agrees : (t : Tables) (listed all : ℕ) → AreAllChecked Members 1 IsInPlace (λ t r. Unit) t listed → all ≡ length (t Members)
    → SettlesWhether (AgreesMembers t) (nat_eq listed all)
agrees t listed all checked is = decided AgreesMembers AgreesMembers listed all checked is
    (λ each whole. each)
    (λ agree row among. grind (arith, agree row among, number_in_least, is_at, number_in_is))
