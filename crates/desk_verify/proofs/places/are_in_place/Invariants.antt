use Rattle.desk_verify.proofs.Common.{◌≡◌, drop, follow}
use Rattle.desk_verify.proofs.places.are_in_place.Given as goal

-- the rest follows where all do
abbrev pub invariant-loop-member : goal.invariant-loop-member
invariant-loop-member l = follow l.last (drop l.member-index l.members) ≡ follow 0 l.fn.members
