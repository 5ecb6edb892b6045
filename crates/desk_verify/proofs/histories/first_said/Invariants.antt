use Rattle.desk_verify.proofs.Common.{◌≡◌, drop, first_said}
use Rattle.desk_verify.proofs.histories.first_said.Given as goal

-- those so far give none
abbrev pub invariant-loop-entry : goal.invariant-loop-entry
invariant-loop-entry l = first_said (drop l.entry-index l.entries) ≡ first_said l.fn.entries
