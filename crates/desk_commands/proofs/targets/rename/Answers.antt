use Rattle.desk_commands.proofs.Answering.{sym, ◌∙◌, makes_nothing, Renames, in_order, renames_nothing, pointwise_is}
use Rattle.desk_commands.proofs.targets.rename.Goals as goal

pub returns-then-eq-2-clause-writes : goal.returns-then-eq-2-clause-writes
returns-then-eq-2-clause-writes g c =
    in_order (Renames c.args.row.now c.args.stored.now) _ (makes_nothing
    (λ r next h. renames_nothing c.args.row.now c.args.stored.now (pointwise_is _ _ (sym c.eq.ensures ∙ c.if-eq.true))
    (pointwise_is _ _ (sym c.eq-then-eq.ensures ∙ c.if-eq-2.true)) r next h.0 h.1))
