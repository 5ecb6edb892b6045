use Rattle.desk_verify.proofs.Common.{Ok, Fault, IsLastNumber, Rollouts, BlamesGiven, FindsTables, StaysIn, AreChecked}
use Rattle.desk_verify.specs.private.RolloutChecks.{IsGoneThrough}
use Rattle.desk_verify.proofs.rollouts.check_rollouts.Given as goal

-- so many rows were listed, and those of the rollouts so far are as they are to be
abbrev pub invariant-loop-before : goal.invariant-loop-before
invariant-loop-before g l = record {
  stays : StaysIn g.S.Store l.fn.calls l.calls (Ok (tt {0}));
  blames : BlamesGiven g.S.Store (IsGoneThrough g.T.ByRollout.table g.T.ByRollout.given) l.fn.calls l.calls (Ok (tt {0}));
  judged : FindsTables g.S.Store {E = Fault} l.fn.calls l.calls (Ok (tt {0}))
      (λ t u. IsLastNumber (t Rollouts) l.last × AreChecked g.T.ByRollout.table g.T.ByRollout.column g.T.ByRollout.is_right g.T.ByRollout.is_whole t l.before
      l.listed);
}
