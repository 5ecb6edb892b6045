use Rattle.mgmt_objects.proofs.Common.{arith}
use Rattle.mgmt_objects.proofs.BodyLemmas.{only_is_none}
use Rattle.mgmt_objects.proofs.body.only_item.Goals as goal

pub returns-then-len-ne1 : goal.returns-then-len-ne1
returns-then-len-ne1 c = only_is_none c.in_ok-items.items.now.items _ c.in_ok-items.ensures (omega arith)
