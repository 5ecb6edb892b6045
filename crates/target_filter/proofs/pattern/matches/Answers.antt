use Rattle.target_filter.proofs.Common.{◌+◌, ap, sym, ◌∙◌, drop, true, false, pieces, greedy}
use Rattle.target_filter.proofs.GreedyMatching.{cut_true, whole_is}
use Rattle.target_filter.proofs.pattern.matches.Goals as goal

pub returns-in-None : goal.returns-in-None
returns-in-None c = whole_is c.args.pattern.now c.args.text.now c.eq.result c.in-None.ensures.cut c.eq.ensures

pub returns-then-starts_with : goal.returns-then-starts_with
returns-then-starts_with c =
    c.matches_behind.ensures
    ∙ ap (λ q. greedy (pieces q) c.behind-then-starts_with.result.now) c.behind.ensures
    ∙ ap (greedy (pieces (drop (c.in-Some.at + 1) c.args.pattern.now))) c.behind-then-starts_with.ensures
    ∙ sym (cut_true c.args.pattern.now c.args.text.now c.before-in-Some.result.now c.in-Some.at true c.in-Some.ensures.cut c.in-Some.ensures.bound
    c.before-in-Some.ensures (sym c.if-starts_with.true ∙ c.starts_with.ensures.value))

pub returns-else-starts_with : goal.returns-else-starts_with
returns-else-starts_with c =
    c.if-starts_with.false
    ∙ sym (cut_true c.args.pattern.now c.args.text.now c.before-in-Some.result.now c.in-Some.at false c.in-Some.ensures.cut c.in-Some.ensures.bound
    c.before-in-Some.ensures (sym c.if-starts_with.false ∙ c.starts_with.ensures.value))
