-- What a device may download.
use Rattle.std.specs.Prelude.{ℕ, cond, nat_eq, List, Option, Some, None, Result, Ok, Err}
use Rattle.std.specs.List.{find, list_any}
use Rattle.rollout_machine.specs.Answers.{modules_offered}
use Rattle.rollout_machine.specs.ByteStrings.{same_bytes}
use Rattle.rollout_machine.specs.Commands.{Bytes, Credential}
use Rattle.rollout_machine.specs.Objects.{artifacts_shown}
use Rattle.rollout_machine.specs.Offers.{offer}
use Rattle.rollout_machine.specs.Records.{Records}
use Rattle.rollout_machine.specs.Verdicts.{is_known}
use Rattle.rollout_model.specs.declared.artifact.Artifact.{Artifact}
use Rattle.rollout_model.specs.declared.refusal.Refusal.{Refusal}
use Rattle.rollout_model.specs.declared.refusal.Refusal.TheVariants.{NotFound, Unauthorized}

-- the artifact of this name, or not found
abbrev pub or_not_found : Option Artifact → Result Artifact Refusal
or_not_found None = Err NotFound
or_not_found (Some a) = Ok a

abbrev pub named : Bytes → List Artifact → Result Artifact Refusal
named filename artifacts = or_not_found (find (λ (a : Artifact). same_bytes a.filename filename) artifacts)

-- the artifact whose contents a device gets, or why it doesn't
abbrev pub downloadable : Records → Credential → ℕ → Bytes → Result Artifact Refusal
downloadable r device m filename =
    cond (is_known r device) (cond (list_any (λ n. nat_eq n m) (modules_offered r (offer r device.id)))
    (named filename (artifacts_shown m 1 r.artifacts)) (Err NotFound)) (Err Unauthorized)
