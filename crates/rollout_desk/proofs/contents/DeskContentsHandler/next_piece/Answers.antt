use Rattle.rollout_desk.proofs.CauseLemmas.{caused_handing}
use Rattle.rollout_desk.proofs.contents.DeskContentsHandler.next_piece.Goals as goal

pub returns-clause-fails : goal.returns-clause-fails
returns-clause-fails g c = λ failed.
    caused_handing g.S.Store c.args.download.now c.args.self.now c.next_piece.new.self (c.next_piece.ensures.conduct.fails failed)
