-- The rows of artifacts and of their pieces.
use Rattle.rollout_machine.specs.Records.{ArtifactRecord}
use Rattle.desk_records.specs.declared.artifact_row.StoredArtifact.{StoredArtifact}

-- what is stored of an artifact, besides its contents
abbrev pub stored : ArtifactRecord → StoredArtifact
stored a = record { module_number = a.module_number; filename = a.filename; size = a.size; digest = a.digest }
