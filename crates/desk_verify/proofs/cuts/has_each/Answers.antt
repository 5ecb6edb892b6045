use Rattle.desk_verify.proofs.Common.{sym, ◌∙◌}
use Rattle.desk_verify.proofs.GroupLemmas.{one_missed}
use Rattle.desk_verify.proofs.cuts.has_each.Goals as goal

pub returns-then-not-has_number : goal.returns-then-not-has_number
returns-then-not-has_number c =
    sym (one_missed c.args.groups.now c.loop-before.before c.args.count (sym c.has_number.ensures ∙ c.if-not-has_number.true) c.loop-before-test.true)
