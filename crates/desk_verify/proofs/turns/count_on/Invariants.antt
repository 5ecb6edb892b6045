use Rattle.desk_verify.proofs.Common.{◌≡◌, drop, count_on}
use Rattle.desk_verify.proofs.turns.count_on.Given as goal

-- the rest counts on where all do
abbrev pub invariant-loop-member : goal.invariant-loop-member
invariant-loop-member l = count_on l.last (drop l.member-index l.members) ≡ count_on 0 l.fn.members
