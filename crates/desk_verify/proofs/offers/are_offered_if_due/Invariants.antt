use Rattle.desk_verify.proofs.Common.{Ok, take, AllByRecursion, Fault, BlamesGiven, FindsTables, StaysIn, IsOfferedIfDue}
use Rattle.desk_verify.specs.Checking.{ChecksDueActions}
use Rattle.desk_verify.proofs.offers.are_offered_if_due.Given as goal

-- those so far are offered where they are due
abbrev pub invariant-loop-listed : goal.invariant-loop-listed
invariant-loop-listed g l = record {
  stays : StaysIn g.S.Store l.fn.calls l.calls (Ok (tt {0}));
  blames : BlamesGiven g.S.Store ChecksDueActions l.fn.calls l.calls (Ok (tt {0}));
  judged : FindsTables g.S.Store {E = Fault} l.fn.calls l.calls (Ok (tt {0}))
      (λ t u. AllByRecursion (IsOfferedIfDue t l.groups) (take l.listed-index l.actions));
}
