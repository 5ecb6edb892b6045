use Rattle.desk_views.proofs.Answering.{◌≡◌, ◌≤◌, ◌-◌, Ok, take, Fault, pieces_of_artifact, item_numbered, FindsIn, StaysIn, FailsAtListsIn, together}
use Rattle.desk_views.proofs.artifacts.read_pieces.Given as goal

-- the bytes so far are those of the first pieces
abbrev pub invariant-loop-bytes : goal.invariant-loop-bytes
invariant-loop-bytes g l = record {
  few : l.pieces ≤ 64;
  stays : StaysIn g.S.Store l.fn.calls l.calls (Ok (tt {0}));
  fails : FailsAtListsIn g.S.Store l.fn.calls l.calls (Ok (tt {0}));
  reads : FindsIn g.S.Store {E = Fault} l.fn.calls l.calls (Ok l.bytes.items)
      (λ r items. items ≡ together (take l.pieces (pieces_of_artifact (item_numbered r.artifacts l.number))));
}

abbrev pub decreases-loop-bytes : goal.decreases-loop-bytes
decreases-loop-bytes g l = 64 - l.pieces
