use Rattle.artifact_pieces.proofs.PieceLemmas.{pieces_make_the_whole}
use Rattle.artifact_pieces.proofs.laws.pieces_make_the_whole.Goals as goal

pub returns : goal.returns
returns c = pieces_make_the_whole
