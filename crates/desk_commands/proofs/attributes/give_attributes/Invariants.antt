use Rattle.desk_commands.proofs.Answering.{Ok, take, Fault, MakesIn, GivesAttributes, WritesIn}
use Rattle.desk_commands.proofs.attributes.give_attributes.Given as goal

-- the attributes before this index are given
abbrev pub invariant-loop-i : goal.invariant-loop-i
invariant-loop-i g l = record {
  stays : WritesIn g.S.Store l.fn.calls l.calls (Ok (tt {0}));
  writes : MakesIn g.S.Store {A = Unit {0}} {E = Fault} l.fn.calls l.calls (Ok tt) (GivesAttributes l.id l.had (take l.i l.given));
}
