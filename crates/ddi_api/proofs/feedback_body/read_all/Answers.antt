use Rattle.ddi_api.proofs.Common.{arith, view, is_detail, text_in}
use Rattle.mgmt_objects.proofs.TraverseLemmas.{traverse_more, traverse_refuses}
use Rattle.ddi_api.proofs.feedback_body.read_all.Goals as goal

pub returns-in-Err : goal.returns-in-Err
returns-in-Err c = traverse_refuses (text_in is_detail) view c.args.values.now c.loop-value.value-index _ _ (omega arith) c.value-item.is c.in-Err.ensures

pub loop-value-preserved : goal.loop-value-preserved
loop-value-preserved c =
    rw c.in_ok-push.ensures.items
    (traverse_more (text_in is_detail) view c.args.values.now c.loop-value.value-index _ _ _ (omega arith) c.value-item.is c.loop-value.invariant
    c.in-Ok.ensures)
