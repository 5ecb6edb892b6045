use Rattle.desk_views.proofs.Answering.{◌≡◌, Ok, map, Fault, chunks_of, chunk, FindsIn, StaysIn, FailsAtListsIn}
use Rattle.desk_views.proofs.deployments.read_module_chunks.Given as goal

-- the chunks so far are those of the modules that were gone through
abbrev pub invariant-loop-module_number : goal.invariant-loop-module_number
invariant-loop-module_number g l = record {
  stays : StaysIn g.S.Store l.fn.calls l.calls (Ok (tt {0}));
  fails : FailsAtListsIn g.S.Store l.fn.calls l.calls (Ok (tt {0}));
  reads : FindsIn g.S.Store {E = Fault} l.fn.calls l.calls (Ok l.chunks.items) (λ r items. map chunk items ≡ chunks_of r l.yielded);
}
