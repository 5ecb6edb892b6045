use Rattle.mgmt_objects.proofs.Common.{view}
use Rattle.mgmt_objects.proofs.TraverseLemmas.{array_listed}
use Rattle.mgmt_objects.proofs.list.read_array.Goals as goal

pub returns-in-Some : goal.returns-in-Some
returns-in-Some g c =
    rw (← array_listed g.T.Item.reads (view c.args.value.now) c.in-Some.items.now.items c.in-Some.ensures, ← c.deref.ensures.value) c.read_list.ensures
