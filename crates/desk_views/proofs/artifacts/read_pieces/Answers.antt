use Rattle.desk_views.proofs.ArtifactViews.{all_taken, together_is}
use Rattle.desk_views.proofs.ListRules.{no_piece}
use Rattle.desk_views.proofs.Answering.{◌≤◌, ◌*◌, ◌++◌, sym, ap, ◌∙◌, arith, rules, IsSome, limits, both_found, finds_as}
use Rattle.desk_views.proofs.Answering.{pieces_of_artifact, item_numbered, pieces_grow, never_fails, told}
use Rattle.desk_views.proofs.artifacts.read_pieces.Goals as goal

pub returns-in-None-clause-reads : goal.returns-in-None-clause-reads
returns-in-None-clause-reads g c =
    finds_as (both_found c.loop-bytes.invariant.reads (rw (sym c.in_ok-piece.ensures.same ∙ c.in-None.is) at c.in_ok-found.ensures.reads))
    (λ r is. grind (arith, all_taken, together_is))

pub loop-bytes-preserved : goal.loop-bytes-preserved
loop-bytes-preserved g c = record {
  few = omega (arith, rw c.in-Some.is at c.in_ok-piece.ensures.few);
  stays = search rules;
  fails = search rules;
  reads = finds_as (both_found c.loop-bytes.invariant.reads (rw (sym c.in_ok-piece.ensures.same ∙ c.in-Some.is) at c.in_ok-found.ensures.reads))
      (λ r is. pieces_grow (pieces_of_artifact (item_numbered r.artifacts c.args.number)) _ _ c.loop-bytes.pieces _ _ is.0 is.1 (omega arith)
      (c.in_ok-append-in-Some.ensures.ok ∙ ap (λ l. c.loop-bytes.bytes.items ++ l) c.deref.ensures.value));
}

pub returns-in_err-piece-clause-fails : goal.returns-in_err-piece-clause-fails
returns-in_err-piece-clause-fails g c = let full : IsSome c.in_ok-found.found × (limits.artifact_size ≤ c.loop-bytes.pieces * limits.piece_length) =
    (c.in_err-piece.ensures.err.1, c.in_err-piece.ensures.err.2) in
    never_fails (λ l it. it) (both_found c.loop-bytes.invariant.reads c.in_ok-found.ensures.reads) _
    (told {Why = IsSome c.in_ok-found.found × (limits.artifact_size ≤ c.loop-bytes.pieces * limits.piece_length)} _ (c.in_err-piece.ensures.err.0, full))
    (λ r is of _ readable full. grind (arith, no_piece)) _ c.from_residual-in_err-piece.ensures.1
