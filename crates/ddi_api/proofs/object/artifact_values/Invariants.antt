use Rattle.ddi_api.proofs.Common.{◌≡◌, map, take, view, device_artifact_data}
use Rattle.ddi_api.proofs.object.artifact_values.Given as goal

abbrev pub invariant-loop-artifact : goal.invariant-loop-artifact
invariant-loop-artifact l = map view l.values.items ≡ map (device_artifact_data l.id l.module_number) (take l.artifact-index l.artifacts)
