-- The object of a deployment: its modules as the types of replies hold them, and no float.
use Rattle.ddi_api.proofs.Common.{◌≡◌, ℕ, List, [], ◌∷◌, false, map, refl, ap, Chunk, Deployment, chunk, device_artifact_data, chunk_data, deployment_data}
use Rattle.ddi_api.proofs.Common.{shown_chunk}
use Rattle.serde_json.specs.Written.{has_float}
use Rattle.mgmt_objects.specs.Floats.{items_have_float-map}
use Rattle.rollout_model.specs.declared.rollout.Chunk.{Chunk as RustChunk}

pub map-shown_chunk : (id : List ℕ) (chunks : List RustChunk) → map (shown_chunk id) chunks ≡ map (chunk_data id) (map chunk chunks)
map-shown_chunk id [] = refl
map-shown_chunk id (c ∷ chunks) = ap (λ rest. chunk_data id (chunk c) ∷ rest) (map-shown_chunk id chunks)

chunk_has_no_float : (id : List ℕ) (c : Chunk) → has_float (chunk_data id c) ≡ false
chunk_has_no_float id c = rw (items_have_float-map (device_artifact_data id c.module_number) (λ a. refl) c.artifacts) refl

pub deployment_has_no_float : (d : Deployment) → has_float (deployment_data d) ≡ false
deployment_has_no_float d = rw (items_have_float-map (chunk_data d.target) (chunk_has_no_float d.target) d.chunks) refl
