use Rattle.desk_verify.proofs.Common.{Ok, take, AllByRecursion, Fault, BlamesGiven, FindsTables, StaysIn, PassesHistory}
use Rattle.desk_verify.specs.Checking.{ChecksActions}
use Rattle.desk_verify.proofs.histories.fit_histories.Given as goal

-- those so far pass
abbrev pub invariant-loop-action : goal.invariant-loop-action
invariant-loop-action g l = record {
  stays : StaysIn g.S.Store l.fn.calls l.calls (Ok (tt {0}));
  blames : BlamesGiven g.S.Store ChecksActions l.fn.calls l.calls (Ok (tt {0}));
  judged : FindsTables g.S.Store {E = Fault} l.fn.calls l.calls (Ok (tt {0})) (λ t u. AllByRecursion (PassesHistory t) (take l.action-index l.actions));
}
