use Rattle.desk_commands.proofs.Answering.{◌≡◌, ◌+◌, cond, sym, ap, ◌∙◌, arith, sorted_from, counted_key}
use Rattle.desk_commands.proofs.attributes.count_new.Goals as goal
use Rattle.desk_commands.proofs.attributes.count_new.Goals.{then-not-has_key_since, else-not-has_key_since}

pub loop-i-preserved : goal.loop-i-preserved
loop-i-preserved c =
    let n = c.loop-i.added in
    let has = c.has_key_since.result in
    let next : c.if-not-has_key_since.added ≡ cond has n (n + 1) = elim c.if-not-has_key_since.branch [
      | then-not-has_key_since w ↦ w.added-is ∙ sym (ap (λ b. cond b n (n + 1)) w.if-not-has_key_since.true)
      | else-not-has_key_since w ↦ w.added-is ∙ sym (ap (λ b. cond b n (n + 1)) w.if-not-has_key_since.false)
    ] in record {
      few = grind (arith, next, c.loop-i.invariant.few);
      all = λ ordered. counted_key c.args.given.now c.args.had.now c.index-given-i.result c.loop-i.i c.loop-i-test.true c.index-given-i.is has
          c.has_key_since.ensures n c.if-not-has_key_since.added next (sorted_from _ ordered) (c.loop-i.invariant.all ordered);
    }
