use Rattle.campaign_core.proofs.Common.{◌≡◌, Some, slice_get, refl, arith, slice_get_read, one_further}
use Rattle.campaign_core.proofs.splits.split_last.Goals as goal

pub loop-i-preserved : goal.loop-i-preserved
loop-i-preserved c =
    let got : slice_get c.args.percentages.now c.loop-i.i ≡ Some c.index-percentages-i.result =
    slice_get_read c.args.percentages.now _ c.loop-i.i c.index-percentages-i.result refl (omega (arith, c.loop-i-test.true, c.requires.there))
    c.index-percentages-i.is in
    one_further c.args.members c.args.percentages.now c.loop-i.i c.index-percentages-i.result c.loop-i.last c.share-last.result got c.loop-i.invariant
    c.share-last.ensures.share c.share-last.ensures.few
