-- The contents of what was found.
use Rattle.std.specs.Prelude.{[], Option, Some, None}
use Rattle.rollout_machine.specs.Commands.{Bytes}
use Rattle.rollout_machine.specs.Records.{ArtifactRecord}

-- of no artifact there are none
abbrev pub contents_found : Option ArtifactRecord → Bytes
contents_found None = []
contents_found (Some a) = a.contents
