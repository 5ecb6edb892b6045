use Rattle.desk_verify.proofs.Common.{Ok, take, AllByRecursion, Fault, BlamesGiven, FindsTables, Pieces, ReadsOf, StaysIn}
use Rattle.desk_verify.specs.Artifacts.{IsWhole}
use Rattle.desk_verify.proofs.artifacts.are_whole.Given as goal

-- those so far are whole
abbrev pub invariant-loop-artifact : goal.invariant-loop-artifact
invariant-loop-artifact g l = record {
  stays : StaysIn g.S.Store l.fn.calls l.calls (Ok (tt {0}));
  blames : BlamesGiven g.S.Store (ReadsOf Pieces) l.fn.calls l.calls (Ok (tt {0}));
  judged : FindsTables g.S.Store {E = Fault} l.fn.calls l.calls (Ok (tt {0})) (λ t u. AllByRecursion (IsWhole t) (take l.artifact-index l.artifacts));
}
