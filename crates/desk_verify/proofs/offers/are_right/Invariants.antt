use Rattle.desk_verify.proofs.Common.{Ok, take, AllByRecursion, Fault, BlamesGiven, FindsTables, StaysIn, IsRight}
use Rattle.desk_verify.specs.Checking.{ChecksOffers}
use Rattle.desk_verify.specs.OfferChecks.{AreKeptGroups}
use Rattle.desk_verify.proofs.offers.are_right.Given as goal

-- those so far are right, and the groups that are kept are those of their rollout
abbrev pub invariant-loop-offer : goal.invariant-loop-offer
invariant-loop-offer g l = record {
  stays : StaysIn g.S.Store l.fn.calls l.calls (Ok (tt {0}));
  blames : BlamesGiven g.S.Store ChecksOffers l.fn.calls l.calls (Ok (tt {0}));
  judged : FindsTables g.S.Store {E = Fault} l.fn.calls l.calls (Ok (tt {0}))
      (λ t u. AreKeptGroups t l.kept × AllByRecursion (IsRight t) (take l.offer-index l.offers));
}
