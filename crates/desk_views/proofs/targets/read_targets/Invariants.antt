use Rattle.desk_views.proofs.Answering.{◌≡◌, Ok, map, take, Fault, targets_of, targets_shown, shown_target, FindsIn, StaysIn, FailsAtListsIn}
use Rattle.desk_views.proofs.targets.read_targets.Given as goal

-- the targets of the ids so far
abbrev pub invariant-loop-id : goal.invariant-loop-id
invariant-loop-id g l = record {
  stays : StaysIn g.S.Store l.fn.calls l.calls (Ok (tt {0}));
  fails : FailsAtListsIn g.S.Store l.fn.calls l.calls (Ok (tt {0}));
  reads : FindsIn g.S.Store {A = Unit {0}} {E = Fault} l.fn.calls l.calls (Ok tt)
      (λ r _. map shown_target l.content.items ≡ targets_shown r (targets_of r (take l.id-index l.ids)));
}
