use Rattle.desk_opening.proofs.Common.{subst, LeavesFree, desk_names}
use Rattle.desk_opening.proofs.ChoiceLemmas.{adopts, makes_free}
use Rattle.desk_opening.proofs.opening.enter.Goals as goal

pub returns-then-uses_desk_name-clause-opens : goal.returns-then-uses_desk_name-clause-opens
returns-then-uses_desk_name-clause-opens g c = adopts _ _ c.args.approval_if_new c.take_over.result c.take_over.ensures.adopts
    (subst (λ s. LeavesFree s desk_names → ⊥) c.schema.ensures (c.uses_desk_name.ensures.used c.if-uses_desk_name.true))

pub returns-clause-opens : goal.returns-clause-opens
returns-clause-opens g c = makes_free _ _ c.args.approval_if_new
    (subst (λ s. LeavesFree s desk_names) c.schema.ensures (c.uses_desk_name.ensures.free c.if-uses_desk_name.false)) c.fill.result c.fill.ensures.failed
    c.fill.ensures.makes
