use Rattle.http_wire.proofs.Common.{◌≡◌, ◌+◌, ℕ, List, drop, inl, ap, ◌∙◌, arith, drop-drop, HasRegion}
use Rattle.http_wire.proofs.MessageLemmas.{fits, missing_head, missing_body, whole_message}
use Rattle.http_wire.proofs.message.read_front.Goals as goal

-- the parts that the bytes were split into are the region and what stands behind it
has_parts : (bytes region after front back : List ℕ) → HasRegion bytes region after → front ≡ region → back ≡ after → HasRegion bytes front back
has_parts bytes region after front back has same rest = rw (same, rest) has

pub returns-then-bytes-lt-HEAD_LENGTH_LIMIT : goal.returns-then-bytes-lt-HEAD_LENGTH_LIMIT
returns-then-bytes-lt-HEAD_LENGTH_LIMIT c = missing_head c.args.bytes.now c.in_default.ensures.none c.if-bytes-lt-HEAD_LENGTH_LIMIT.true

pub overflow_add-len : goal.overflow_add-len
overflow_add-len c =
    let has = has_parts _ _ _ _ _ c.in-Some.ensures.found c.split_at.ensures.front c.split_at.ensures.back in
    let small = fits _ _ _ _ _ _ c.in-Ok.body_len has (record { head = c.in-Ok.ensures.head; body = c.in-Ok.ensures.body }) in
    omega (arith, small, c.split_at.ensures.front_len)

pub returns-then-after-body_len : goal.returns-then-after-body_len
returns-then-after-body_len c =
    let has = has_parts _ _ _ _ _ c.in-Some.ensures.found c.split_at.ensures.front c.split_at.ensures.back in
    let missing = missing_body _ _ _ _ _ _ c.in-Ok.body_len has (record { head = c.in-Ok.ensures.head; body = c.in-Ok.ensures.body })
    c.if-after-body_len.true in
    rw c.split_at.ensures.front_len at missing

pub returns-in-Err : goal.returns-in-Err
returns-in-Err c =
    let has = has_parts _ _ _ _ _ c.in-Some.ensures.found c.split_at.ensures.front c.split_at.ensures.back in
    inl (c.split_at.result.0.now, c.split_at.result.1.now, has, c.in-Err.ensures.fault)

pub returns-else-after-body_len : goal.returns-else-after-body_len
returns-else-after-body_len c =
    let has = has_parts _ _ _ _ _ c.in-Some.ensures.found c.split_at.ensures.front c.split_at.ensures.back in
    let whole = whole_message _ _ _ _ _ _ c.in-Ok.body_len has (record { head = c.in-Ok.ensures.head; body = c.in-Ok.ensures.body })
    c.if-after-body_len.false in
    let rest : drop c.in-Ok.body_len c.split_at.result.1.now ≡ drop (c.in-Some.head_len + c.in-Ok.body_len) c.args.bytes.now =
    ap (drop c.in-Ok.body_len) c.split_at.ensures.back ∙ drop-drop c.in-Ok.body_len c.in-Some.head_len c.args.bytes.now in
    (omega (arith, c.split_at.ensures.back_len, c.split_at.ensures.front_len, c.if-after-body_len.false, c.in-Some.ensures.within), rw rest at whole)
