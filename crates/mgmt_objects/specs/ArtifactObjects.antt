-- The objects of artifacts.
use Rattle.std.specs.Prelude.{codes}
use Rattle.serde_json.specs.Data.{Data, string, object, member, no_members}
use Rattle.artifact_pieces.specs.Digests.{digest_digits}
use Rattle.rollout_model.specs.declared.artifact.Artifact.{Artifact}
use Rattle.mgmt_objects.specs.Pages.{whole}

-- the digests of an artifact: one, in lower case
abbrev pub hashes_data : Artifact → Data
hashes_data a = object (member (codes "sha256") (string (digest_digits a.digest)) no_members)

-- an artifact, its members in byte order
abbrev pub artifact_data : Artifact → Data
artifact_data a = object (member (codes "hashes") (hashes_data a)
    (member (codes "id") (whole a.number) (member (codes "providedFilename") (string a.filename) (member (codes "size") (whole a.size) no_members))))
