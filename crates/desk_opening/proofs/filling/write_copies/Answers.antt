use Rattle.desk_opening.proofs.FillLemmas.{nothing_said, parts}
use Rattle.desk_store.proofs.CallsInTurn.{stays_then}
use Rattle.std.proofs.Common.{rules}
use Rattle.sql_calls.proofs.Stepping.{no_step, steps_then}
use Rattle.sql_calls.proofs.Composing.{makes_nothing, makes_then}
use Rattle.desk_opening.proofs.filling.write_copies.Goals as goal

pub loop-i-init : goal.loop-i-init
loop-i-init g c = record { stays = search rules; standing = no_step tt _; writes = makes_nothing (nothing_said c.args.rule.now c.args.number) }

pub loop-i-preserved : goal.loop-i-preserved
loop-i-preserved g c = record {
  stays = stays_then c.loop-i.invariant.stays _ c.in_ok-write_rule.ensures.stays.stays;
  standing = steps_then c.loop-i.invariant.standing _ c.in_ok-write_rule.ensures.standing;
  writes = makes_then c.loop-i.invariant.writes (parts c.args.rule.now c.args.number c.loop-i.i) _ c.in_ok-write_rule.ensures.writes;
}
