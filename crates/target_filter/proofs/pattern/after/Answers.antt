use Rattle.target_filter.proofs.Common.{ap, sym, ◌∙◌, Some}
use Rattle.target_filter.proofs.GreedyMatching.{after_is}
use Rattle.target_filter.proofs.pattern.after.Goals as goal

pub returns-then-starts_with : goal.returns-then-starts_with
returns-then-starts_with c = after_is c.args.piece.now c.loop-rest.rest.now _ (sym c.starts_with.ensures.value ∙ c.if-starts_with.true)
    (ap Some c.behind.ensures) ∙ c.loop-rest.invariant
