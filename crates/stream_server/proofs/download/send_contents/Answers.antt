use Rattle.stream_server.proofs.Common.{ℕ, sym, ap, ◌∙◌, err_from_is_err_and}
use Rattle.stream_server.specs.private.Contents.{contents_head}
use Rattle.stream_server.proofs.ContentsLemmas.{head_cut, piece_handed, piece_cut, interrupted}
use Rattle.stream_server.proofs.download.send_contents.Goals as goal

pub returns-in_err-send-clause-sends : goal.returns-in_err-send-clause-sends
returns-in_err-send-clause-sends g c =
    let p = err_from_is_err_and c.from_residual.result c.from_residual.ensures.1 in
    let e = c.in_err-send.ensures.err in
    let head = sym (c.in-Ok.ensures ∙ ap (λ (n : ℕ). contents_head n) c.size.ensures) ∙ sym c.as_slice.ensures.value in
    rw (p.1, p.2, e.0) (head_cut _ _ _ _ e.2 e.3 (head ∙ e.4) e.5)

pub returns-in_err-send-in-Ok-Some-clause-sends : goal.returns-in_err-send-in-Ok-Some-clause-sends
returns-in_err-send-in-Ok-Some-clause-sends g c =
    let p = err_from_is_err_and c.from_residual-in_err-send-in-Ok-Some.result c.from_residual-in_err-send-in-Ok-Some.ensures.1 in
    let hands = rw c.in-Ok-Some.field-0-is at c.in-Ok-Some.ensures.hands in
    let e = c.in_err-send-in-Ok-Some.ensures.err in
    rw (p.1, p.2, e.0) (piece_cut _ _ _ _ _ _ _ _ c.loop-piece.invariant.0 c.next_piece.ensures.clean _ c.in-Ok-Some.piece e.2 e.3 hands
    (sym c.as_slice-in-Ok-Some.ensures.value ∙ e.4) e.5)

pub loop-piece-preserved : goal.loop-piece-preserved
loop-piece-preserved g c =
    let hands = rw c.in-Ok-Some.field-0-is at c.in-Ok-Some.ensures.hands in
    let e = c.in_ok-send-in-Ok-Some.ensures in
    let sent = rw c.as_slice-in-Ok-Some.ensures.value at e.ok in
    (piece_handed _ _ _ _ _ _ _ _ c.loop-piece.invariant.0 c.next_piece.ensures.clean _ c.in-Ok-Some.piece hands sent, e.unfailed ∙ c.loop-piece.invariant.1)

pub returns-in-Err-clause-sends : goal.returns-in-Err-clause-sends
returns-in-Err-clause-sends g c =
    rw c.fault_at.ensures.is (interrupted _ _ _ _ _ _ _ _ c.loop-piece.invariant.0 c.next_piece.ensures.clean c.in-Err.refusal c.in-Err.ensures.hands)
