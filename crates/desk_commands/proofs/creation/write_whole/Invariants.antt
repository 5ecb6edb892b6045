use Rattle.desk_commands.proofs.Answering.{[], Ok, length, Fault, MakesLedger, CreatesRollout, in_part, WritesIn, ◌+◌}
use Rattle.std.specs.Prelude.{◌*◌}
use Rattle.desk_store.specs.Counting.{AddsIn}
use Rattle.desk_commands.proofs.CreationLemmas.{first_rules}
use Rattle.desk_commands.proofs.creation.write_whole.Given as goal

-- so many groups are written, with what is said of them
abbrev pub invariant-loop-i : goal.invariant-loop-i
invariant-loop-i g l = record {
  stays : WritesIn g.S.Store l.fn.calls l.calls (Ok (tt {0}));
  writes : MakesLedger g.S.Store {A = Unit {0}} {E = Fault} l.fn.calls l.calls (Ok tt)
      (CreatesRollout (in_part l.created l.plan (length l.members) l.i []) (first_rules l.plan l.i));
  work : AddsIn (1 + l.i * 2) 0 l.fn.calls l.calls;
}
