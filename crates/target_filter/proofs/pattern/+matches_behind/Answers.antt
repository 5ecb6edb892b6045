use Rattle.target_filter.proofs.Common.{◌≡◌, ◌+◌, ap, sym, ◌∙◌, Some, None, take, drop, pieces, after, greedy}
use Rattle.target_filter.proofs.GreedyMatching.{greedy_none, greedy_some}
use Rattle.target_filter.proofs.pattern.+matches_behind.Goals as goal

pub returns-in-None-after : goal.returns-in-None-after
returns-in-None-after t c =
    let gone : after (take c.in-Some.at c.args.pattern.now) c.args.text.now ≡ None = ap (λ p. after p c.args.text.now) (sym c.before-in-Some.ensures)
    ∙ sym c.in-None-after.ensures in
    greedy_none c.args.pattern.now (take c.in-Some.at c.args.pattern.now) (drop (c.in-Some.at + 1) c.args.pattern.now) c.args.text.now c.in-Some.ensures.cut
    gone

pub returns-in-Some-after : goal.returns-in-Some-after
returns-in-Some-after t c =
    let there : after (take c.in-Some.at c.args.pattern.now) c.args.text.now ≡ Some c.in-Some-after.rest.now =
    ap (λ p. after p c.args.text.now) (sym c.before-in-Some.ensures) ∙ sym c.in-Some-after.ensures in
    c.matches_behind.ensures ∙ ap (λ q. greedy (pieces q) c.in-Some-after.rest.now) c.behind.ensures
    ∙ greedy_some c.args.pattern.now (take c.in-Some.at c.args.pattern.now) (drop (c.in-Some.at + 1) c.args.pattern.now) c.args.text.now
    c.in-Some-after.rest.now c.in-Some.ensures.cut there
