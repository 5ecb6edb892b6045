use Rattle.mgmt_objects.proofs.Common.{arith, view}
use Rattle.mgmt_objects.proofs.TraverseLemmas.{traverse_more, traverse_refuses}
use Rattle.mgmt_objects.proofs.list.read_list.Goals as goal

pub returns-in-Err : goal.returns-in-Err
returns-in-Err g c = traverse_refuses g.T.Item.reads view c.args.values.now c.loop-value.value-index _ _ (omega arith) c.value-item.is c.in-Err.ensures

pub loop-value-preserved : goal.loop-value-preserved
loop-value-preserved g c =
    rw c.in_ok-push.ensures.items (traverse_more g.T.Item.reads view c.args.values.now c.loop-value.value-index _ _ _ (omega arith) c.value-item.is
    c.loop-value.invariant c.in-Ok.ensures)
