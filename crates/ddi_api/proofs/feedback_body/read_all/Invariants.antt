use Rattle.ddi_api.proofs.Common.{◌≡◌, Some, map, take, view, traverse, is_detail, text_in}
use Rattle.ddi_api.proofs.feedback_body.read_all.Given as goal

abbrev pub invariant-loop-value : goal.invariant-loop-value
invariant-loop-value l = traverse (text_in is_detail) (map view (take l.value-index l.values)) ≡ Some l.lines.items
