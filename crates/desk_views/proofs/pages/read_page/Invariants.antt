use Rattle.desk_views.proofs.Answering.{◌≡◌, Ok, drop, take, Fault, numbered, FindsIn, StaysIn, FailsAtListsIn}
use Rattle.desk_views.proofs.pages.read_page.Given as goal

-- the entries so far are the first of the page
abbrev pub invariant-loop-place : goal.invariant-loop-place
invariant-loop-place g l = record {
  stays : StaysIn g.S.Store l.fn.calls l.calls (Ok (tt {0}));
  fails : FailsAtListsIn g.S.Store l.fn.calls l.calls (Ok (tt {0}));
  reads : FindsIn g.S.Store {E = Fault} l.initial.calls l.calls (Ok l.content.items)
      (λ r items. g.T.Numbered.given r → items ≡ take l.place (drop l.page.offset (numbered (g.T.Numbered.shown r) 1 (g.T.Numbered.items r))));
}
