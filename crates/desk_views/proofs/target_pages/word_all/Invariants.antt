use Rattle.desk_views.proofs.Answering.{◌≡◌, Ok, map, Fault, worded, FindsIn, StaysIn, FailsAtListsIn}
use Rattle.desk_views.proofs.target_pages.word_all.Given as goal

-- the content so far are those that were gone through
abbrev pub invariant-loop-target : goal.invariant-loop-target
invariant-loop-target g l = record {
  stays : StaysIn g.S.Store l.fn.calls l.calls (Ok (tt {0}));
  fails : FailsAtListsIn g.S.Store l.fn.calls l.calls (Ok (tt {0}));
  reads : FindsIn g.S.Store {E = Fault} l.fn.calls l.calls (Ok l.content.items)
      (λ r items. items ≡ map (worded r) l.yielded);
}
