use Rattle.desk_views.proofs.Answering.{inl, inr, unshown_at}
use Rattle.desk_views.proofs.groups.all_shown.Goals as goal

pub returns-in_err-rule-clause-err : goal.returns-in_err-rule-clause-err
returns-in_err-rule-clause-err c =
    unshown_at c.args.rules.now c.args.groups.now c.loop-group.group-index _ c.loop-group-test.true (inl c.in_err-rule.ensures.1) _ c.in_err-rule.ensures.0 _
    c.from_residual.ensures.1

pub returns-in_err-shown-clause-err : goal.returns-in_err-shown-clause-err
returns-in_err-shown-clause-err c =
    unshown_at c.args.rules.now c.args.groups.now c.loop-group.group-index _ c.loop-group-test.true (inr c.in_err-shown.ensures.err.1) _
    c.in_err-shown.ensures.err.0 _ c.from_residual-in_err-shown.ensures.1
