use Rattle.stream_server.proofs.Common.{[], ◌∷◌, ◌++◌, Some, None, refl, ◌∙◌, arith, length-append}
use Rattle.stream_server.proofs.Common.{message_of, err_from_is_err_and}
use Rattle.stream_server.proofs.PartLemmas.{serves_append, serves_nil, takes_more, takes_nil}
use Rattle.stream_server.proofs.answer.answer_all.Goals as goal

pub loop-fault-init : goal.loop-fault-init
loop-fault-init g c = ([], takes_nil _, omega (arith, c.ranges.before.fits), serves_nil _ _ _, refl)

pub returns-in_err-answer_one-in-Some-Ok-clause-serves : goal.returns-in_err-answer_one-in-Some-Ok-clause-serves
returns-in_err-answer_one-in-Some-Ok-clause-serves g c =
    let p = err_from_is_err_and c.from_residual.result c.from_residual.ensures.1 in
    let hands = rw (c.in-Some-Ok.is, c.in-Some-Ok.field-0-is) at c.next.follows.holds-at-none in
    let inv = c.loop-fault.invariant in
    let ms = inv.0 in
    let m = message_of c.in-Some-Ok.message in
    rw (p.1, p.2) (
      ms ++ m ∷ [],
      takes_more _ _ _ ms (m ∷ []) inv.1 hands.so_far,
      tt,
      serves_append _ _ _ _ _ _ _ ms (m ∷ []) (Some _) inv.3
          c.in_err-answer_one-in-Some-Ok.ensures.serves,
    )

pub loop-fault-preserved : goal.loop-fault-preserved
loop-fault-preserved g c =
    let hands = rw (c.in-Some-Ok.is, c.in-Some-Ok.field-0-is) at c.next.follows.holds-at-none in
    let inv = c.loop-fault.invariant in
    let ms = inv.0 in
    let m = message_of c.in-Some-Ok.message in (
      ms ++ m ∷ [],
      takes_more _ _ _ ms (m ∷ []) inv.1 hands.so_far,
      omega (arith, inv.2, c.saturating_add-answered.ensures, length-append ms (m ∷ [])),
      serves_append _ _ _ _ _ _ _ ms (m ∷ []) None inv.3 c.in_ok-answer_one-in-Some-Ok.ensures.serves,
      c.in_ok-answer_one-in-Some-Ok.ensures.write_failed ∙ inv.4,
    )
