use Rattle.ddi_api.proofs.Common.{◌≡◌, map, take, view, shown_chunk}
use Rattle.ddi_api.proofs.object.chunk_values.Given as goal

abbrev pub invariant-loop-chunk : goal.invariant-loop-chunk
invariant-loop-chunk l = map view l.values.items ≡ map (shown_chunk l.id) (take l.chunk-index l.chunks)
