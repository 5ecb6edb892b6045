use Rattle.rollout_desk.proofs.CauseLemmas.{caused}
use Rattle.rollout_desk.proofs.contents.DeskContentsHandler.begin_download.Goals as goal

pub returns-in-Err-clause-fails : goal.returns-in-Err-clause-fails
returns-in-Err-clause-fails g c = λ failed. caused g.S.Store c.args.self.now c.download.new.self (c.in-Err.ensures.conduct.fails failed)
