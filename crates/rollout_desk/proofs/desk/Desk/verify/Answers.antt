use Rattle.rollout_desk.proofs.Common.{inl, refl}
use Rattle.rollout_desk.proofs.LookLemmas.{becomes_refused, interrupted}
use Rattle.rollout_desk.proofs.desk.Desk.verify.Goals as goal

pub returns-in-Err-clause-keeps : goal.returns-in-Err-clause-keeps
returns-in-Err-clause-keeps g c = λ h clean standing. becomes_refused _ h c.in-Err.refusal
    (interrupted c.args.self.now.targets c.args.self.now.stopped _ _ _ _ c.in-Err.ensures.looks
    c.in-Err.refusal {Other = Unit {0}} (inl refl) _ c.is_failed_store-self.ensures h clean standing)
