use Rattle.desk_views.proofs.Answering.{refl, arith, numbered_rule}
use Rattle.std.proofs.lemmas.Option.{slice_get_read}
use Rattle.desk_views.proofs.groups.rule_of.Goals as goal

pub returns-in-Some : goal.returns-in-Some
returns-in-Some c = λ plan are.
    let is = c.in-Some.ensures.lookup in
    numbered_rule plan c.args.rules.now c.args.number c.in-Some.rule.now are (omega (arith, c.if-number-eq0.false))
    (slice_get_read c.args.rules.now _ _ c.in-Some.rule.now refl is.3.0 is.1)
