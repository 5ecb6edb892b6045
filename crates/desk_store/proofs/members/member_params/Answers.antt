use Rattle.desk_store.proofs.Answering.{arith, pushed}
use Rattle.desk_store.proofs.members.member_params.Goals as goal

pub loop-i-preserved : goal.loop-i-preserved
loop-i-preserved c = grind (
  arith,
  pushed,
  c.loop-i.invariant,
  c.in_ok-push-2.ensures,
  c.in_ok-push-3.ensures,
  c.loop-i-test.true,
  c.index-ids-i.is,
  c.as_str.ensures,
)
