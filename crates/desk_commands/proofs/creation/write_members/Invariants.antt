use Rattle.desk_commands.proofs.Answering.{Ok, take, length, Fault, MakesLedger, WritesIn, ◌+◌}
use Rattle.std.specs.Prelude.{◌*◌, ◌/◌}
use Rattle.desk_records.specs.LedgerSteps.{AddsMembers}
use Rattle.desk_store.specs.Counting.{AddsIn}
use Rattle.desk_commands.proofs.creation.write_members.Given as goal

-- so many times sixteen are written
abbrev pub invariant-loop-i : goal.invariant-loop-i
invariant-loop-i g l = record {
  stays : WritesIn g.S.Store l.fn.calls l.calls (Ok (tt {0}));
  writes : MakesLedger g.S.Store {A = Unit {0}} {E = Fault} l.fn.calls l.calls (Ok tt) (AddsMembers l.number 1 (take (l.i * 16) l.members));
  work : AddsIn l.i 0 l.fn.calls l.calls;
}

-- .. and so many of those behind them
abbrev pub invariant-loop-i-2 : goal.invariant-loop-i-2
invariant-loop-i-2 g l = record {
  stays : WritesIn g.S.Store l.fn.calls l.calls (Ok (tt {0}));
  writes : MakesLedger g.S.Store {A = Unit {0}} {E = Fault} l.fn.calls l.calls (Ok tt)
      (AddsMembers l.number 1 (take (length l.members / 16 * 16 + l.i) l.members));
  work : AddsIn (length l.members / 16 + l.i) 0 l.fn.calls l.calls;
}
