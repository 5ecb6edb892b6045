use Rattle.desk_verify.proofs.Common.{◌≡◌, true, has_each}
use Rattle.desk_verify.proofs.cuts.has_each.Given as goal

-- there is one of each number so far
abbrev pub invariant-loop-before : goal.invariant-loop-before
invariant-loop-before l = has_each l.groups l.before ≡ true
