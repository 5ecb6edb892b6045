use Rattle.artifact_pieces.proofs.PieceLemmas.{pieces_fit}
use Rattle.artifact_pieces.proofs.laws.pieces_fit.Goals as goal

pub returns : goal.returns
returns c = pieces_fit
