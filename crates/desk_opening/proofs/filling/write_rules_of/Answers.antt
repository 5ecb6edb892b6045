use Rattle.desk_opening.proofs.Common.{arith}
use Rattle.desk_opening.proofs.FillLemmas.{copies_of}
use Rattle.desk_store.proofs.CallsInTurn.{stays_then}
use Rattle.sql_calls.proofs.Stepping.{steps_then}
use Rattle.sql_calls.proofs.Composing.{found_then_makes}
use Rattle.desk_opening.proofs.filling.write_rules_of.Goals as goal

pub returns-in-Some-clause-stays : goal.returns-in-Some-clause-stays
returns-in-Some-clause-stays g c = stays_then c.in_ok-rollout.ensures.stays _ c.write_copies.ensures.stays

pub returns-in-Some-clause-standing : goal.returns-in-Some-clause-standing
returns-in-Some-clause-standing g c = steps_then c.in_ok-rollout.ensures.standing _ c.write_copies.ensures.standing

pub returns-in-Some-clause-writes : goal.returns-in-Some-clause-writes
returns-in-Some-clause-writes g c =
    found_then_makes c.in_ok-rollout.ensures.reads (copies_of c.args.number c.in-Some.rollout _ c.in-Some.is) _
    (rw (c.get.ensures.value, c.evenly-rule.ensures) at c.write_copies.ensures.writes)

pub returns-in-Some-clause-fails : goal.returns-in-Some-clause-fails
returns-in-Some-clause-fails g c = let it = c.write_copies.ensures.sound in grind arith
