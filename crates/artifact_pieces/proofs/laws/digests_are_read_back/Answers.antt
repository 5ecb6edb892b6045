use Rattle.artifact_pieces.proofs.DigestLemmas.{digests_are_read_back}
use Rattle.artifact_pieces.proofs.laws.digests_are_read_back.Goals as goal

pub returns : goal.returns
returns c = digests_are_read_back
