use Rattle.campaign_core.proofs.Common.{◌≡◌, ◌<◌, ◌+◌, ◌++◌, ◌∷◌, [], Some, slice_get, refl, sym, ap, ◌∙◌, arith, slice_get_read, split_bounds_of, split_last}
use Rattle.campaign_core.proofs.Common.{each_from_more, bounds_from, none_here, one_further, one_more_bounds}
use Rattle.campaign_core.proofs.splits.split_groups.Goals as goal

pub loop-percentage-preserved : goal.loop-percentage-preserved
loop-percentage-preserved c =
    let m = c.args.members in
    let ps = c.args.percentages.now in
    let i = c.loop-percentage.percentage-index in
    let got : slice_get ps i ≡ Some c.percentage-item.result = slice_get_read ps _ i c.percentage-item.result refl c.loop-percentage-test.true
    c.percentage-item.is in
    let next : c.loop-percentage.last + c.share-last.result ≡ split_last m ps (i + 1) = one_further m ps i c.percentage-item.result c.loop-percentage.last
    c.share-last.result got c.loop-percentage.invariant.last c.share-last.ensures.share c.share-last.ensures.few in
    let bounds = one_more_bounds m ps i c.loop-percentage.last (c.loop-percentage.last + c.share-last.result) c.loop-percentage.invariant.last next in
    let low : c.loop-percentage.last < m = omega (arith, c.loop-percentage.invariant.last, c.if-last-members.false) in
    record {
      number = ap (λ n. n + 1) c.loop-percentage.invariant.number;
      last = next;
      groups = c.in-Ok.ensures.items ∙ ap (λ l. l ++ bounds_from c.loop-percentage.last (c.loop-percentage.last + c.share-last.result) ∷ [])
          c.loop-percentage.invariant.groups
          ∙ sym (each_from_more (split_bounds_of m ps) 1 i (i + 1) (bounds_from c.loop-percentage.last (c.loop-percentage.last + c.share-last.result))
          (omega arith) bounds);
      none = c.loop-percentage.invariant.none ∙ none_here m ps i c.percentage-item.result c.loop-percentage.last c.share-last.result got low
          c.share-last.ensures.share (c.loop-percentage.number + 1);
    }
