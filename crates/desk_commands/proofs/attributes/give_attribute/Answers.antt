use Rattle.desk_commands.proofs.Answering.{makes_as, makes_nothing, GivesAttribute, in_order, adds_one, keeps_one, sets_one}
use Rattle.desk_commands.proofs.attributes.give_attribute.Goals as goal

pub returns-then-not-has_key_since-clause-writes : goal.returns-then-not-has_key_since-clause-writes
returns-then-not-has_key_since-clause-writes g c =
    makes_as (λ r next. adds_one _ _ _ _ r next _ c.has_key_since.ensures c.if-not-has_key_since.true) _
    c.write_target_attribute.ensures.writes

pub returns-then-keeps-clause-writes : goal.returns-then-keeps-clause-writes
returns-then-keeps-clause-writes g c =
    in_order (GivesAttribute c.args.id.now c.args.had.now c.args.since.now c.args.attribute.now) _ (makes_nothing
    (λ r next h. keeps_one _ _ _ _ r next _ c.keeps.ensures c.if-keeps.true h.0 h.1))

pub returns-clause-writes : goal.returns-clause-writes
returns-clause-writes g c =
    makes_as (λ r next. sets_one _ _ _ _ r next _ c.has_key_since.ensures c.if-not-has_key_since.false) _
    c.change_target_attribute.ensures.writes
