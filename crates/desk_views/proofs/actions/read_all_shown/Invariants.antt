use Rattle.desk_views.proofs.Answering.{◌≡◌, Ok, map, take, Fault, listed_shown, FindsAtListsIn, FailsAtListsIn, StaysIn}
use Rattle.desk_views.proofs.actions.read_all_shown.Given as goal

-- those so far
abbrev pub invariant-loop-one : goal.invariant-loop-one
invariant-loop-one g l = record {
  stays : StaysIn g.S.Store l.fn.calls l.calls (Ok (tt {0}));
  fails : FailsAtListsIn g.S.Store l.fn.calls l.calls (Ok (tt {0}));
  reads : FindsAtListsIn g.S.Store {A = Unit {0}} {E = Fault} l.fn.calls l.calls (Ok tt)
      (λ r _. l.all.items ≡ map (listed_shown r) (take l.one-index l.listed));
}
