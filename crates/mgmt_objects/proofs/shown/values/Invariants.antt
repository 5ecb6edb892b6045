use Rattle.mgmt_objects.proofs.Common.{◌≡◌, map, take, view}
use Rattle.mgmt_objects.proofs.shown.values.Given as goal

abbrev pub invariant-loop-shown : goal.invariant-loop-shown
invariant-loop-shown g l = map view l.values.items ≡ map g.T.Shown.shows (take l.shown-index l.records)
