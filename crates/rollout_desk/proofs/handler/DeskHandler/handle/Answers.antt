use Rattle.rollout_desk.proofs.CauseLemmas.{caused}
use Rattle.rollout_desk.proofs.handler.DeskHandler.handle.Goals as goal

pub returns-clause-fails : goal.returns-clause-fails
returns-clause-fails g c = λ failed. caused g.S.Store c.args.self.now c.answer.new.self (c.answer.ensures.conduct.fails failed)
