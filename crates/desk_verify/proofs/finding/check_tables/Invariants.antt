use Rattle.desk_verify.proofs.Common.{Ok, take, AllByRecursion, Fault, FindsTables, StaysIn, Passes, checked}
use Rattle.desk_verify.specs.Stopping.{StopsInOrder}
use Rattle.desk_verify.proofs.finding.check_tables.Given as goal

-- those so far pass
abbrev pub invariant-loop-table : goal.invariant-loop-table
invariant-loop-table g l = record {
  stays : StaysIn g.S.Store l.fn.calls l.calls (Ok (tt {0}));
  stops : StopsInOrder g.S.Store l.fn.calls l.calls (Ok (tt {0}));
  judged : FindsTables g.S.Store {E = Fault} l.fn.calls l.calls (Ok (tt {0})) (λ t u. AllByRecursion (Passes t) (take l.table-index checked));
}
