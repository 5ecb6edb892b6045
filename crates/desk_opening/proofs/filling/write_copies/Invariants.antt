use Rattle.desk_opening.proofs.Common.{Ok, Fault, WritesCopies}
use Rattle.desk_store.specs.Changing.{MakesLedger, StaysIn}
use Rattle.desk_store.specs.Sharing.{KeepsStanding}
use Rattle.desk_opening.proofs.filling.write_copies.Given as goal

-- the first i groups
abbrev pub invariant-loop-i : goal.invariant-loop-i
invariant-loop-i g l = record {
  stays : StaysIn g.S.Store l.initial.calls l.calls (Ok (tt {0}));
  standing : KeepsStanding g.S.Store l.initial.calls l.calls (Ok (tt {0}));
  writes : MakesLedger g.S.Store {A = Unit {0}} {E = Fault} l.initial.calls l.calls (Ok tt) (WritesCopies l.number l.i l.rule);
}
