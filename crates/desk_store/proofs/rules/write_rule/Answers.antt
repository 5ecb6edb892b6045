use Rattle.desk_store.proofs.Answering.{HoldsLedger, adds_rule, arith, put_advances, put_rule_is, puts, rules, run_frames, writes}
use Rattle.desk_store.proofs.rules.write_rule.Goals as goal

pub returns-clause-stays : goal.returns-clause-stays
returns-clause-stays g c = record {
  stays = record { grows = search rules; frame = run_frames HoldsLedger _ _ _ _ (puts put_rule_is) c.run.result c.run.ensures.runs };
  sound = search rules;
}

pub returns-clause-standing : goal.returns-clause-standing
returns-clause-standing g c = put_advances put_rule_is c.run.ensures.runs

pub returns-clause-writes : goal.returns-clause-writes
returns-clause-writes g c = writes (puts put_rule_is) (adds_rule c.args.number c.args.group c.args.rule.now _ _ _) c.run.ensures.runs (grind arith)
