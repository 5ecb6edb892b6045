use Rattle.desk_opening.proofs.Common.{Ok, Fault}
use Rattle.desk_store.specs.Changing.{MakesLedger, StaysIn}
use Rattle.desk_store.specs.Sharing.{KeepsStanding}
use Rattle.desk_opening.proofs.RuleLists.{WritesUpTo}
use Rattle.desk_opening.proofs.filling.write_rules.Given as goal

-- of the first k rollouts
abbrev pub invariant-loop-k : goal.invariant-loop-k
invariant-loop-k g l = record {
  stays : StaysIn g.S.Store l.initial.calls l.calls (Ok (tt {0}));
  standing : KeepsStanding g.S.Store l.initial.calls l.calls (Ok (tt {0}));
  writes : MakesLedger g.S.Store {A = Unit {0}} {E = Fault} l.initial.calls l.calls (Ok tt) (WritesUpTo l.k);
}
