use Rattle.ddi_api.proofs.Common.{◌≡◌, map, ap, ◌∙◌, IfOk-weaker, view, chunk, chunk_data, deployment_object}
use Rattle.ddi_api.proofs.ObjectLemmas.{map-shown_chunk}
use Rattle.ddi_api.proofs.object.deployment_value.Goals as goal

pub returns : goal.returns
returns c =
    let id = c.args.plan.now.target in
    let chunks = c.args.plan.now.chunks.items in
    let shown : map view c.in_ok-chunks.chunks.items ≡ map (chunk_data id) (map chunk chunks) =
    rw (← c.as_slice.ensures.value) (c.in_ok-chunks.ensures ∙ map-shown_chunk id c.as_slice.result.now) in
    IfOk-weaker c.deployment_object.result _ _ (λ v is. is ∙ ap (deployment_object c.args.plan.now.action) shown) c.deployment_object.ensures
