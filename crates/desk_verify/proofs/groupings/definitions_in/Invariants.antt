use Rattle.desk_verify.proofs.Common.{◌≡◌, take, definitions_in}
use Rattle.desk_verify.proofs.groupings.definitions_in.Given as goal

-- those of the rules so far
abbrev pub invariant-loop-rule : goal.invariant-loop-rule
invariant-loop-rule l = l.definitions.items ≡ definitions_in (take l.rule-index l.rules)
