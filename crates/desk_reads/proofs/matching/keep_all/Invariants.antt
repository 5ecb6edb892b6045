use Rattle.desk_reads.proofs.Common.{◌≡◌, ◌≤◌, ◌+◌, true, Ok, Some, take, drop, in_byte_order, FailsAtListsIn}
use Rattle.std.specs.Prelude.{◌*◌}
use Rattle.sql_calls.specs.declared.fault.Fault.{Fault}
use Rattle.target_filter.specs.Grammar.{Tree}
use Rattle.target_filter.specs.Profile.{filter_of}
use Rattle.desk_store.specs.Changing.{FindsIn, StaysIn}
use Rattle.desk_reads.specs.Matches.{attributes_reads, tags_reads, those_matched}
use Rattle.desk_reads.specs.Targets.{listed_ids}
use Rattle.desk_reads.proofs.matching.keep_all.Given as goal

-- the ids are there of those that match of the parts so far, and the others are left
abbrev pub invariant-loop : goal.invariant-loop
invariant-loop g l = record {
  stays : StaysIn g.S.Store l.fn.calls l.calls (Ok (tt {0}));
  fails : FailsAtListsIn g.S.Store l.fn.calls l.calls (Ok (tt {0}));
  left : l.left.items ≡ drop (l.counter * 100) l.fn.listed.items;
  work : l.calls.work.statements ≤ l.fn.calls.work.statements
      + (tags_reads (filter_of l.filter) + attributes_reads (filter_of l.filter)) * l.counter;
  reads : FindsIn g.S.Store {A = Unit {0}} {E = Fault} l.fn.calls l.calls (Ok tt)
      (λ r _. in_byte_order (listed_ids l.fn.listed.items) ≡ true → (f : Tree) → filter_of l.filter ≡ Some f
      → l.ids.items ≡ those_matched r f (take (l.counter * 100) l.fn.listed.items));
}
