use Rattle.mgmt_objects.proofs.Common.{◌≡◌, Some, map, take, view, traverse}
use Rattle.mgmt_objects.proofs.list.read_list.Given as goal

abbrev pub invariant-loop-value : goal.invariant-loop-value
invariant-loop-value g l = traverse g.T.Item.reads (map view (take l.value-index l.values)) ≡ Some l.items.items
