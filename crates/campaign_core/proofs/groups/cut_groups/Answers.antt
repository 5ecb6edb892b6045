use Rattle.campaign_core.proofs.Common.{◌≡◌, ◌+◌, ◌++◌, ◌∷◌, [], sym, ◌∙◌, ap, arith, bounds_of, each_from_more}
use Rattle.campaign_core.proofs.groups.cut_groups.Goals as goal

pub loop-i-preserved : goal.loop-i-preserved
loop-i-preserved c =
    let e : c.loop-i.i + 1 ≡ 1 + c.loop-i.i = omega arith in
    c.in_ok-push.ensures.items ∙ ap (λ xs. xs ++ c.group_bounds.result ∷ []) c.loop-i.invariant
    ∙ sym (each_from_more (bounds_of c.args.members c.args.groups) 1 c.loop-i.i (c.loop-i.i + 1) c.group_bounds.result e c.group_bounds.ensures)
