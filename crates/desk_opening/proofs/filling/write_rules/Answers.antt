use Rattle.desk_opening.proofs.Common.{arith}
use Rattle.desk_opening.proofs.FailLemmas.{rules_fail}
use Rattle.desk_opening.proofs.FillLemmas.{all_filled, nothing_yet, one_filled_more}
use Rattle.desk_store.proofs.CallsInTurn.{stays_then}
use Rattle.std.proofs.Common.{rules}
use Rattle.sql_calls.proofs.Stepping.{no_step, steps_then}
use Rattle.sql_calls.proofs.Composing.{found_then_makes, makes_nothing, makes_then}
use Rattle.desk_opening.proofs.filling.write_rules.Goals as goal

pub loop-k-init : goal.loop-k-init
loop-k-init g c = record { stays = search rules; standing = no_step tt _; writes = makes_nothing nothing_yet }

pub loop-k-preserved : goal.loop-k-preserved
loop-k-preserved g c = record {
  stays = stays_then c.loop-k.invariant.stays _ c.in_ok-write_rules_of.ensures.stays;
  standing = steps_then c.loop-k.invariant.standing _ c.in_ok-write_rules_of.ensures.standing;
  writes = makes_then c.loop-k.invariant.writes (one_filled_more c.loop-k.k _ (omega arith)) _ c.in_ok-write_rules_of.ensures.writes;
}

pub returns-clause-writes : goal.returns-clause-writes
returns-clause-writes g c = found_then_makes c.in_ok-last.ensures.reads
    (all_filled c.loop-k.k c.in_ok-last.last (omega (arith, c.loop-k-test.false, c.loop-k.auto.k-end))) _ c.loop-k.invariant.writes

pub returns-in_err-write_rules_of-clause-stays : goal.returns-in_err-write_rules_of-clause-stays
returns-in_err-write_rules_of-clause-stays g c =
    let it = stays_then c.in_ok-last.ensures.stays _ (stays_then c.loop-k.invariant.stays _ c.in_err-write_rules_of.ensures.stays) in grind arith

pub returns-in_err-write_rules_of-clause-standing : goal.returns-in_err-write_rules_of-clause-standing
returns-in_err-write_rules_of-clause-standing g c =
    let it = steps_then c.in_ok-last.ensures.standing _ (steps_then c.loop-k.invariant.standing _ c.in_err-write_rules_of.ensures.standing) in grind arith

pub returns-in_err-write_rules_of-clause-fails : goal.returns-in_err-write_rules_of-clause-fails
returns-in_err-write_rules_of-clause-fails g c =
    let out = c.from_residual-in_err-write_rules_of in
    rules_fail c.loop-k.k _ _ (omega (arith, c.loop-k-test.true)) (omega arith) c.in_ok-last.ensures.reads c.loop-k.invariant.writes
    c.in_err-write_rules_of.ensures.standing.wears c.in_err-write_rules_of.field-0.0 c.in_err-write_rules_of.ensures.fails out.result out.ensures.1
