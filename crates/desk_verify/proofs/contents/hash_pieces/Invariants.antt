use Rattle.desk_verify.proofs.Common.{Ok, Fault, BlamesGiven, FindsTables, Pieces, ReadsOf, StaysIn}
use Rattle.desk_verify.proofs.PieceChecks.{IsHashedTo}
use Rattle.desk_verify.proofs.contents.hash_pieces.Given as goal

-- the first pieces were hashed
abbrev pub invariant-loop-before : goal.invariant-loop-before
invariant-loop-before g l = record {
  stays : StaysIn g.S.Store l.fn.calls l.calls (Ok (tt {0}));
  blames : BlamesGiven g.S.Store (ReadsOf Pieces) l.fn.calls l.calls (Ok (tt {0}));
  judged : FindsTables g.S.Store {E = Fault} l.fn.calls l.calls (Ok (tt {0})) (λ t u. IsHashedTo t l.number l.size l.before l.hasher);
}
