use Rattle.desk_commands.proofs.Answering.{take, Ok, seen_in, StaysIn, PutsSoFar}
use Rattle.desk_commands.proofs.targets.put_rows.Given as goal

-- the rows before this index are put
abbrev pub invariant-loop-row : goal.invariant-loop-row
invariant-loop-row g l = record {
  stays : StaysIn g.S.Store l.fn.calls l.calls (Ok (tt {0}));
  puts : PutsSoFar (seen_in g.S.Store l.fn.calls) (seen_in g.S.Store l.calls) (take l.row-index l.rows) l.counted;
}
