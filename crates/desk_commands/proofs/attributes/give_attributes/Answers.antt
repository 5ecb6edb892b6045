use Rattle.desk_commands.proofs.Answering.{◌∙◌, no_change, rules, makes_nothing, makes_then, more_attributes, one_more}
use Rattle.desk_commands.proofs.attributes.give_attributes.Goals as goal

pub loop-i-init : goal.loop-i-init
loop-i-init g c = record {
  stays = search rules;
  writes = makes_nothing (λ r next h. h.next_is ∙ no_change r c.args.id.now);
}

pub loop-i-preserved : goal.loop-i-preserved
loop-i-preserved g c = record {
  stays = search rules;
  writes = makes_then c.loop-i.invariant.writes
      (λ r next h. more_attributes _ _ _ c.index-given-i.result r next
      (rw (one_more c.args.given.now c.index-given-i.result c.loop-i.i c.loop-i-test.true c.index-given-i.is) at h)) _ c.in_ok-give_attribute.ensures.writes;
}
